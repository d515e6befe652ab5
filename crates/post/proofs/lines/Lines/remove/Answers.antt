use Rattle.std.proofs.Common.{◌≡◌, ◌+◌, ◌*◌, ◌%◌, ◌<◌, length, get_or, Some, sym, ap, ◌∙◌, arith, rules}
use Rattle.std.specs.List.{slice_get}
use Rattle.post.proofs.Turns.{reads, none_waits, none_freed, first_place, one_freed}
use Rattle.post.proofs.lines.Lines.remove.Goals as goal

pub returns-then-line-eq0 : goal.returns-then-line-eq0
returns-then-line-eq0 c =
    let l = c.args.self.now in
    let e = none_waits l _ _ _ _ (reads l c.args.pair.receiver c.args.pair.sender _ c.index-self-number.result c.in_ok-number.ensures (search rules)) (omega arith) in
    record { answer = sym (ap (λ xs. slice_get xs 0) e); left = none_freed l _ _ e }

pub returns : goal.returns
returns c =
    let l = c.args.self.now in
    let n : length l.lines ≡ 256 = search rules in
    let q = reads l c.args.pair.receiver c.args.pair.sender _ c.index-self-number.result c.in_ok-number.ensures n in
    let h : 0 < (get_or l.lines c.in_ok-number.number c.index-self-number.result).count = omega arith in
    record {
      answer = ap Some (c.new.ensures ∙ ap (λ t. c.in_ok-number.number * 4 + t % 4) c.oldest.ensures) ∙ sym (first_place l _ _ _ _ q h);
      left = one_freed l _ _ _ _ q c.one_less.result h c.one_less.ensures.0 c.one_less.ensures.1 n;
    }
