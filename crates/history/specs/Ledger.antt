-- The ledger of document 01 ("Demand 3, word by word"): a plain list of images, empty at first. It is fed the buffer's length and each call's
-- Image ID and manifest, and no answers; no buffer and no record is in it.
use Rattle.std.specs.Prelude.{ℕ, true, false, List, [], ◌∷◌, ◌++◌, eqb, Some}
use Rattle.text.specs.Question.{lowest}
use Rattle.store_record.specs.Image.{Image}
use Rattle.store.specs.Load.{image_of, load_questions}
use Rattle.history.specs.Calls.{Call}

-- the table gives the call a number, asked of a store of that length which holds just these images
unfoldable pub ledger_number : ℕ → List Image → Call → ℕ
ledger_number size xs c = lowest (load_questions size (Some xs) c.id c.manifest)

-- at 0 the image goes to the end; at any other number the ledger stays
unfoldable pub ledger_after : ℕ → List Image → Call → List Image
ledger_after size xs c = elim (eqb (ledger_number size xs c) 0) [ true ↦ xs ++ (image_of c.id c.manifest ∷ []) | false ↦ xs ]

unfoldable pub ledger_from : ℕ → List Image → List Call → List Image
ledger_from size xs [] = xs
ledger_from size xs (c ∷ cs) = ledger_from size (ledger_after size xs c) cs

unfoldable pub ledger_numbers_from : ℕ → List Image → List Call → List ℕ
ledger_numbers_from size xs [] = []
ledger_numbers_from size xs (c ∷ cs) = ledger_number size xs c ∷ ledger_numbers_from size (ledger_after size xs c) cs

unfoldable pub ledger : ℕ → List Call → List Image
ledger size cs = ledger_from size [] cs

unfoldable pub ledger_numbers : ℕ → List Call → List ℕ
ledger_numbers size cs = ledger_numbers_from size [] cs
