use Rattle.std.proofs.Common.{◌≡◌, ◌+◌, ◌*◌, ◌%◌, length, Some, sym, ap, ◌∙◌, rules}
use Rattle.std.proofs.lemmas.Bool.{ltb-true, ltb-false, cond-true, cond-false}
use Rattle.post.proofs.Turns.{reads, no_room, has_room, next_place, one_added}
use Rattle.post.proofs.lines.Lines.add.Goals as goal

pub returns-then-is_full : goal.returns-then-is_full
returns-then-is_full c =
    let l = c.args.self.now in
    let q = reads l c.args.pair.receiver c.args.pair.sender _ c.index-self-number.result c.in_ok-number.ensures (search rules) in
    let e = no_room l _ _ _ _ q (ltb-true 3 _ (sym c.if-is_full.ensures)) in
    record { answer = sym (cond-false _ _ _ e); left = sym (cond-false _ _ _ e) }

pub returns : goal.returns
returns c =
    let l = c.args.self.now in
    let n : length l.lines ≡ 256 = search rules in
    let q = reads l c.args.pair.receiver c.args.pair.sender _ c.index-self-number.result c.in_ok-number.ensures n in
    let e = has_room l _ _ _ _ q (ltb-false 3 _ (sym c.if-is_full.ensures)) in
    record {
      answer = ap Some (c.new.ensures ∙ ap (λ t. c.in_ok-number.number * 4 + t % 4) c.next.ensures ∙ next_place l _ _ _ _ q) ∙ sym (cond-true _ _ _ e);
      left = one_added l _ _ _ _ q c.one_more.result c.one_more.ensures.0 c.one_more.ensures.1 n ∙ sym (cond-true _ _ _ e);
    }
