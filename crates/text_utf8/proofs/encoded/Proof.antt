-- `text_utf8::encoded` meets its contract: each `return` has the form of `encode` that the tests before it choose.
-- Assumes nothing.
use borrow.Author.Rules.{rules}
use native.Mathlib.Omega.{arith}
use mathlib.Core.Path.{ap, sym}
use lib.ListN.{length}
use Rattle.text_utf8.proofs.Forms.{encode_1, encode_2, encode_3, encode_4}
use Rattle.text_utf8.proofs.encoded.Statement.{statement}
use Rattle.text_utf8.proofs.encoded.Tie as tie

returns-then-c-lt128 : tie.Need-returns-then-c-lt128
returns-then-c-lt128 c =
    let e = encode_1 c.args.c (omega arith) in
    (sym (ap length e), sym e)

returns-then-c-lt2048 : tie.Need-returns-then-c-lt2048
returns-then-c-lt2048 c =
    let e = encode_2 c.args.c (omega arith) (omega arith) in
    (sym (ap length e), sym e)

returns-then-c-lt65536 : tie.Need-returns-then-c-lt65536
returns-then-c-lt65536 c =
    let e = encode_3 c.args.c (omega arith) (omega arith) in
    (sym (ap length e), sym e)

returns : tie.Need-returns
returns c =
    let e = encode_4 c.args.c (omega arith) in
    (sym (ap length e), sym e)

pub encoded_spec : {M : Type 1} → statement M
encoded_spec =
    tie.close (tie.spec (λ c. search rules) returns-then-c-lt128 (λ c. search rules) (λ c. search rules) (λ c. search rules) (λ c. search rules) returns-then-c-lt2048
    (λ c. search rules) (λ c. search rules) (λ c. search rules) (λ c. search rules) returns-then-c-lt65536 (λ c. search rules) (λ c. search rules)
    (λ c. search rules) (λ c. search rules) returns)
