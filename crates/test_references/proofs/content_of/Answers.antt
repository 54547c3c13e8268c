-- A text that is taken and whose first byte is a string's is one string.
use Rattle.std.proofs.Common.{arith}
use mathlib.Core.Path.{sym, ◌∙◌}
use Rattle.text_content.specs.Value.{content}
use Rattle.text.proofs.Taken.{taken_text}
use Rattle.text.proofs.Roots.{known}
use Rattle.test_references.proofs.Contents.{string_inside, string_short}
use Rattle.test_references.proofs.content_of.Goals as goal

pub kind-requires : goal.kind-requires
kind-requires c =
    let p = known _ _ c.check.ensures _ _ c.in-Ok.is in
    record { depth = 8; value = content p.tree; here = c.root-at.ensures.by_index 8 p.tree (taken_text _ p) }

pub overflow_add-result : goal.overflow_add-result
overflow_add-result c =
    let p = known _ _ c.check.ensures _ _ c.in-Ok.is in
    let h = c.root-at.ensures.by_index 8 p.tree (taken_text _ p) in
    omega (arith, string_short _ _ _ _ p.short h (sym (c.kind.ensures 8 _ h) ∙ c.in-String.is))

pub returns-in-String : goal.returns-in-String
returns-in-String c =
    let p = known _ _ c.check.ensures _ _ c.in-Ok.is in
    let h = c.root-at.ensures.by_index 8 p.tree (taken_text _ p) in
    string_inside _ _ 8 _ h (sym (c.kind.ensures 8 _ h) ∙ c.in-String.is)
