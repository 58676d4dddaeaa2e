use Rattle.std.proofs.Common.{List, ℕ, ◌++◌, ap, ◌∙◌}
use Rattle.std.proofs.lemmas.List.{append_assoc}
use Rattle.xdr.specs.Shape.{word, counted}
use Rattle.nfs_types.proofs.mounting.MountResultsEncode.write.Goals as goal

pub returns-clause-items : goal.returns-clause-items
returns-clause-items c =
    let out = c.args.out.now.items in
    let handle = counted c.args.self.now.handle in
    c.write-4.ensures.items
    ∙ (ap (λ (l : List ℕ). l ++ word 0)
    (c.write-3.ensures.items ∙ (ap (λ (l : List ℕ). l ++ word 1) (c.write-2.ensures.items ∙ (ap (λ (l : List ℕ). l ++ word 2) c.write.ensures.items)))))
    ∙ (ap (λ (l : List ℕ). (l ++ word 1) ++ word 0) (append_assoc out handle (word 2)))
    ∙ (ap (λ (l : List ℕ). l ++ word 0) (append_assoc out (handle ++ word 2) (word 1)))
    ∙ append_assoc out ((handle ++ word 2) ++ word 1) (word 0)
    ∙ ap (λ (l : List ℕ). out ++ l) (append_assoc (handle ++ word 2) (word 1) (word 0) ∙ append_assoc handle (word 2) (word 1 ++ word 0))
