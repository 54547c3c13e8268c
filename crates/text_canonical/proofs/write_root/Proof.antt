-- `text_canonical::write_root` meets its contract. Assumes nothing.
use borrow.Author.Rules.{rules}
use mathlib.Core.Path.{sym, ◌∙◌}
use Rattle.text_canonical.proofs.Marks.{space_of}
use Rattle.text_canonical.proofs.Values.{object_value}
use Rattle.text_canonical.proofs.write_root.Statement.{statement}
use Rattle.text_canonical.proofs.write_root.Tie as tie

write_members-requires : tie.Need-write_members-requires
write_members-requires c κs =
    let p = c.requires in
    let v = object_value p.value (sym c.in-Object.is
    ∙ c.kind.ensures 8 p.value p.space.here) in
    record { fields = v.0; space = space_of v.1 p.space; sorted = p.sorted v.0 v.1 }

pub write_root_spec : {M : Type 1} → statement M
write_root_spec =
    tie.close (tie.spec (λ c κs. search rules) (λ c. search rules) write_members-requires (λ c κs. search rules) (λ c. search rules)
    (λ c. search rules) (λ c. search rules) (λ c. search rules) (λ c. search rules) (λ c. search rules) (λ c. search rules) (λ c. search rules))
