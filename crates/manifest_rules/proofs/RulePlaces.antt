-- The rules of a launch policy by the positions that are written of their strings, one by one. Assumes nothing.
use Rattle.std.specs.Prelude.{Option}
use Prim.Native.Nat.{ℕ, zero, suc, ◌+◌, ◌≤◌, ◌<◌}
use mathlib.Core.Path.{◌≡◌, refl, sym, ap, subst, ◌∙◌}
use mathlib.Core.List.{List, map}
use mathlib.Core.Bool.{false}
use native.Mathlib.Omega.{arith}
use lib.ListN.{length, take, get_or, length-map}
use lib.Seq.{length-take-le, get_or-take}
use Rattle.text_content.specs.Value.{Value}
use Rattle.text_strings.specs.InString.{InString}
use Rattle.text_strings.proofs.Contents.{content_from_is}
use Rattle.reference.specs.References.{Rule, rule, no_rule}
use Rattle.manifest_fields.specs.Accessors.{accepts_field, texts}
use Rattle.manifest_fields.specs.FieldTests.{found_entries}
use Rattle.manifest_fields.specs.Members.{Finds}
use Rattle.manifest_repeat.specs.Names.{NamesAt, no_names, name_at}
use Rattle.manifest_strings.specs.Strings.{found_strings, PlaceableFound, Placed}
use Rattle.manifest.specs.Manifest.{manifest_of, rules}
use Rattle.manifest.specs.Opened.{Opens}
use Rattle.manifest.specs.Opened.{Places}
use Rattle.manifest.proofs.Limits.{rules_few}
use Rattle.manifest.proofs.Opened.{rules_array, rules_read}
use Rattle.manifest.proofs.Opening.{opened_short}
use Rattle.manifest_rules.specs.RulePlaces.{RuleAt, SomeRuleAt, RulesAt, no_rule_at, rule_at}

-- Strings stand as rules behind their quotation marks.
named_rules : {s ks : List ℕ} {cs : List (List ℕ)} → NamesAt s ks cs → RulesAt s (map (λ (k : ℕ). 0 + k + 1) ks) (map rule cs)
named_rules no_names = no_rule_at
named_rules {s} (name_at {k} {c = c} p n) =
    let e : k + 1 ≡ 0 + k + 1 = omega arith in
    let i = subst (λ (j : ℕ). InString s j c) e p in
    rule_at (record { inside = record { bytes = c; here = i }; is = ap rule (content_from_is s (0 + k + 1) c i) }) (named_rules n)

-- as many positions as rules, and at each its rule
at_length : {s ks : List ℕ} {ys : List Rule} → RulesAt s ks ys → length ks ≡ length ys
at_length no_rule_at = refl
at_length (rule_at h n) = ap suc (at_length n)

at_get : {s ks : List ℕ} {ys : List Rule} → RulesAt s ks ys → (j : ℕ) → j < length ks → RuleAt s (get_or ks j 0) (get_or ys j no_rule)
at_get no_rule_at j h = absurd (omega arith)
at_get (rule_at x n) zero h = x
at_get (rule_at x n) (suc j) h = at_get n j (omega arith)

module _ (s at : List ℕ) (n : ℕ) (ys : List Rule) (x : RulesAt s (take n at) ys) (h : n ≤ length at) where
  -- As many positions were written as there are rules.
  pub placed_count : n ≡ length ys
  placed_count = sym (length-take-le n at h) ∙ at_length x

  -- At the position with index j stands the rule with that index.
  pub placed_rule : (j : ℕ) → j < n → RuleAt s (get_or at j 0) (get_or ys j no_rule)
  placed_rule j l =
      subst (λ (k : ℕ). RuleAt s k (get_or ys j no_rule)) (get_or-take n at j 0 l) (at_get x j (omega (arith, length-take-le n at h)))

-- Where a rule stands, some rule stands.
pub some_rule_at : (s : List ℕ) (k : ℕ) (y : Rule) → RuleAt s k y → SomeRuleAt s k
some_rule_at s k y h = record { rule = y; here = h }

module _ (s : List ℕ) (p : Places) (o : Opens s p) where
  -- The strings of `accepts` can be placed.
  pub placeable_rules : (at : List ℕ) → 64 ≤ length at → PlaceableFound s 0 6 false p.accepts at
  placeable_rules at h =
      let r = (rules_read s o.good).is in
      record {
        value = accepts_field (manifest_of s);
        finds = o.accepts;
        strings = rules_array s o.good;
        few = omega (arith, length-map (texts (found_entries (accepts_field (manifest_of s)))) rule, ap length r, rules_few s o.good);
        space = h;
        short = omega (arith, opened_short s p o);
      }

  -- Where they were placed stand the rules.
  pub rules_placed : {before after : List ℕ} {r : ℕ} → ((v : Option Value) → Finds s 6 v p.accepts → Placed s 0 before after r (found_strings false v))
      → RulesAt s (take r after) (rules s)
  rules_placed f = let w = f (accepts_field (manifest_of s)) o.accepts in rw (w.first, (rules_read s o.good).is) (named_rules w.strings)
