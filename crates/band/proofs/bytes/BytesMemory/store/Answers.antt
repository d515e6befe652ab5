use Rattle.std.proofs.Common.{◌≡◌, ◌+◌, ◌*◌, ◌≤◌, length, drop, ap, ap₂, ◌∙◌, arith, rules}
use Rattle.post.specs.Queues.{upd}
use Rattle.band.specs.Banded.{unpacked, banded}
use Rattle.band.proofs.Storing.{behind, one_letter}
use Rattle.band.proofs.bytes.BytesMemory.store.Goals as goal

pub returns : goal.returns
returns c =
    let b = c.args.self.now.items.now in
    let k = c.args.place in
    let x = c.pack.result in
    let long : k * 49 + 49 ≤ length b = omega (arith, c.args.self.now.enough) in
    let whole : length x ≡ 49 = search rules in
    record {
      letters = ap banded c.write.ensures.bytes ∙ one_letter b x k long whole ∙ ap (upd (banded b) k) (ap unpacked c.pack.ensures.bytes ∙ c.pack.ensures.back);
      untouched = ap₂ (λ n y. (n, y)) c.write.ensures.name (ap (drop 50176) c.write.ensures.bytes ∙ behind b x k long whole 50176 (omega arith));
    }
