-- What is asked of the aliases of one group against the sorted aliases of another. The keys of the others are there where they are asked about.
use Rattle.std.specs.Prelude.{ℕ, List, Bool}
use Rattle.text_strings.specs.InString.{content_from}
use Rattle.reference.specs.Matches.{is_one_of}
use Rattle.manifest_heads.specs.Contents.{Named, stands_elsewhere}
use Rattle.manifest_repeat.specs.Names.{SortedNames}
use Rattle.manifest_heads.specs.Placed.{SortedContents}
use Rattle.manifest_names.specs.declared.asked.Asked.{Asked}
use Rattle.manifest_names.specs.declared.asked.Asked.TheVariants.{Shared, Elsewhere}

-- the others, which stand sorted at the positions ks of s
abbrev pub Against : Asked → (s keys ks : List ℕ) → Type 0
Against Shared s keys ks = (cs : List (List ℕ)) × SortedNames s cs ks
Against Elsewhere s keys ks = (xs : List Named) × SortedContents s xs keys ks

-- the alias whose name and key are the contents from positions q and k of t on
abbrev pub alias : List ℕ → ℕ → ℕ → Named
alias t q k = record { name = content_from t q; key = content_from t k }

-- the name of an alias is one of the others, or stands among them under another key
unfoldable pub passes : (a : Asked) (s keys ks : List ℕ) → Against a s keys ks → Named → Bool
passes Shared s keys ks i x = is_one_of x.name i.0
passes Elsewhere s keys ks i x = stands_elsewhere x.name x.key i.0
