use Rattle.std.proofs.Common.{◌≡◌, ◌≤◌, length, ap, sym, ◌∙◌, arith, rules}
use Rattle.post.specs.Laws.{short_body}
use Rattle.post.specs.Queues.{Letter}
use Rattle.post.specs.Records.{letter_in}
use Rattle.band.specs.Banded.{packed}
use Rattle.band.proofs.Packing.{together, unpacked-packed}
use Rattle.band.proofs.cells.pack.Goals as goal

pub returns : goal.returns
returns c =
    let l : Letter = letter_in c.args.written.now in
    let short = short_body c.args.written.now in
    let m : Letter = record { sets = c.sets-sets.result; body = c.body-body.result.now } in
    let e : m ≡ l = λ i. record { sets = c.sets-sets.ensures i; body = c.body-body.ensures i } in
    let fits : length m.body ≤ 16 = omega (arith, short, ap (λ x. length x.body) e) in
    record {
      bytes =
          together m.sets c.body_len.result m.body c.copy_from_slice.new.self c.copy_from_slice-2.new.self c.copy_from_slice-3.new.self c.copy_from_slice-4.new.self c.copy_from_slice-5.new.self
          (c.body_len.ensures ∙ ap (λ x. length x.body) (sym e)) (c.copy_from_slice.ensures.after ∙ c.to_bytes.ensures.bytes) (c.copy_from_slice-2.ensures.after ∙ c.to_bytes-2.ensures.bytes)
          (c.copy_from_slice-3.ensures.after ∙ c.to_bytes-3.ensures.bytes) (c.copy_from_slice-4.ensures.after ∙ c.to_bytes-4.ensures.bytes)
          c.copy_from_slice-5.ensures.after fits
          ∙ ap packed e;
      back = unpacked-packed l short (search rules) (search rules) (search rules) (search rules);
    }
