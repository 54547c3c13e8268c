-- The rules of a launch policy by the positions where their strings stand in the text (document 01, "References, names and rules").
use Rattle.std.specs.Prelude.{ℕ, ◌≡◌, List, [], ◌∷◌}
use Rattle.text_strings.specs.InString.{Inside, content_from}
use Rattle.reference.specs.References.{Rule, rule}

-- from position k of s on a string goes on that is read as the rule y
pub record RuleAt (s : List ℕ) (k : ℕ) (y : Rule) : Type 0 where
  pub inside : Inside s k
  pub is : rule (content_from s k) ≡ y

-- some rule stands there
pub record SomeRuleAt (s : List ℕ) (k : ℕ) : Type 0 where
  pub rule : Rule
  pub here : RuleAt s k rule

-- at the positions ks stand the rules ys
pub data RulesAt (s : List ℕ) : List ℕ → List Rule → Type 0 where
  no_rule_at : RulesAt s [] []
  rule_at : {k : ℕ} {ks : List ℕ} {y : Rule} {ys : List Rule} → RuleAt s k y → RulesAt s ks ys → RulesAt s (k ∷ ks) (y ∷ ys)
