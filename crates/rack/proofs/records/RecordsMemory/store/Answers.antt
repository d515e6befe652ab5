use Rattle.std.proofs.Common.{drop, ap, ap₂, ◌∙◌, arith}
use Rattle.std.proofs.lemmas.List.{drop-set-lt}
use Rattle.rack.proofs.records.RecordsMemory.store.Goals as goal

pub returns-clause-untouched : goal.returns-clause-untouched
returns-clause-untouched c =
    ap₂ (λ n xs. (n, xs)) c.write.ensures.name (ap (drop 1024) c.write.ensures.records ∙ drop-set-lt 1024 c.args.self.now.items.now c.args.place c.args.written (omega arith))
