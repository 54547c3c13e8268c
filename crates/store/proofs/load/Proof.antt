-- `store::load` meets its contract: for a short manifest and for any other the array for its form has space. Assumes nothing.
use mathlib.Core.Logic.{inl, inr}
use native.Mathlib.Omega.{arith}
use Rattle.store.proofs.Forms.{told}
use borrow.Author.Rules.{rules}
use Rattle.store.proofs.load.Statement.{statement}
use Rattle.store.proofs.load.Tie as tie

load_within-requires : tie.Need-load_within-requires
load_within-requires c κs =
    (record { fits = inl (omega (arith, c.if-manifest-le-SHORT_BYTES.true)) }, record { names_size = omega arith; spare_size = omega arith })

returns-then-manifest-le-SHORT_BYTES : tie.Need-returns-then-manifest-le-SHORT_BYTES
returns-then-manifest-le-SHORT_BYTES c = told c.load_within.ensures

load_within-requires-2 : tie.Need-load_within-requires-2
load_within-requires-2 c κs = (record { fits = inr (omega arith) }, record { names_size = omega arith; spare_size = omega arith })

returns : tie.Need-returns
returns c = told c.load_within-2.ensures

pub load_spec : {M : Type 1} → statement M
load_spec =
    tie.close (tie.spec (λ c. search rules) (λ c. search rules) (λ c. search rules) load_within-requires (λ c. search rules)
    returns-then-manifest-le-SHORT_BYTES (λ c. search rules) (λ c. search rules) (λ c. search rules) load_within-requires-2 (λ c. search rules) returns)
