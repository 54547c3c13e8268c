-- `text::write_form` meets its contract. Assumes nothing.
use borrow.Author.Rules.{rules}
use Prim.Native.Nat.{ℕ}
use mathlib.Core.Path.{refl, sym, ap, subst, ◌∙◌}
use mathlib.Core.List.{List, ◌++◌}
use native.Mathlib.Omega.{arith}
use lib.ListN.{length, drop}
use Rattle.text_content.specs.Value.{Value, content}
use Rattle.text_view.specs.Place.{ValueAt}
use Rattle.text.proofs.Taken.{taken, taken_text, taken_form, form_short}
use Rattle.text.proofs.Keys.{root_sorted}
use Rattle.text.proofs.write_form.Statement.{statement}
use Rattle.text.proofs.write_form.Tie as tie

write_value-value-requires : tie.Need-write_value-value-requires
write_value-value-requires c κs =
    let s = c.args.text.now in
    let b = c.requires in
    let p = taken s b.taken in
    let w = form_short s p in
    let f = ap length (taken_form s p) in
    let at = c.root-at.result in
    let here = c.root-at.ensures.0 8 p.tree (taken_text s p) in
    record {
      value = content p.tree;
      space = record {
        here = here;
        short = omega (arith, p.short);
        form = omega (arith, b.fits, f);
        enough = omega (arith, p.short, w, f, b.space.enough);
        sorting = b.space.sorting;
      };
      sorted = λ fs e. root_sorted s at _ _ p.tree c.root-at.ensures.1 p.reads b.sorted fs
          (subst (λ (v : Value). ValueAt s at 8 v) e here);
    }

returns : tie.Need-returns
returns c =
    let s = c.args.text.now in
    let p = taken s c.requires.taken in
    let w = c.write_value-value.ensures (content p.tree)
    (c.root-at.ensures.0 8 p.tree (taken_text s p)) in
    let e = sym (taken_form s p) in (
      (refl, w.0 ∙ ap length e, refl),
      w.1.all ∙ ap (λ (l : List ℕ). l ++ drop (length l) c.args.out.now) e,
    )

pub write_form_spec : {M : Type 1} → statement M
write_form_spec =
    tie.close (tie.spec (λ c κs. search rules) write_value-value-requires (λ c. search rules) (λ c. search rules) (λ c. search rules) returns)
