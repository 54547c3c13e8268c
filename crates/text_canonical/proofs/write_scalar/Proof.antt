-- `text_canonical::write_scalar` meets its contract. Assumes nothing.
use borrow.Author.Rules.{rules}
use mathlib.Core.Path.{sym, ap, ◌∙◌}
use native.Mathlib.Omega.{arith}
use lib.ListN.{length}
use Rattle.text_canonical.proofs.Values.{left_string}
use Rattle.text_canonical.proofs.Scalars.{same_kind, null_bytes, boolean_bytes, number_at, number_size, number_written, string_inside, string_bytes}
use Rattle.text_canonical.proofs.write_scalar.Statement.{statement}
use Rattle.text_canonical.proofs.write_scalar.Tie as tie

copy-requires : tie.Need-copy-requires
copy-requires c κs =
    let b = c.before.before.before.before.before in
    omega (arith, ap length (null_bytes b.requires.value (sym c.in-Null.is ∙ b.requires.tells)), b.requires.form)

write_boolean-requires : tie.Need-write_boolean-requires
write_boolean-requires c κs =
    let b = c.before.before.before.before in
    omega (arith, ap length (boolean_bytes _ b.requires.value (sym c.in-Boolean.is ∙ b.requires.tells)), b.requires.form)

digits_end-requires : tie.Need-digits_end-requires
digits_end-requires c κs =
    let b = c.before.before.before in
    number_at _ _ b.requires.depth b.requires.value b.requires.here (sym c.in-Number.is ∙ b.requires.tells)

copy-requires-in-Number : tie.Need-copy-requires-in-Number
copy-requires-in-Number c κs =
    let b = c.before.before.before.before.before in
    let d = c.digits_end.ensures in
    let e = number_size _ _ b.requires.depth b.requires.value b.requires.here _ d (sym c.in-Number.is ∙ b.requires.tells) in
    (d.later, d.within, omega (arith, e, b.requires.form))

write_string-requires : tie.Need-write_string-requires
write_string-requires c κs =
    let b = c.before.before.before.before in
    let p = b.requires in
    let k = sym (left_string b.args.kind c.in_default.in_default-own.keys4 p.no_array p.no_object) ∙ p.tells in
    (string_inside _ _ p.depth p.value p.here k, omega (arith, ap length (string_bytes _ _ p.depth p.value p.here k), p.form))

returns-in-Null : tie.Need-returns-in-Null
returns-in-Null c =
    let d = c.before.before in
    let b = d.before.before.before.before.before.before in
    λ depth v h. rw (null_bytes v (sym d.in-Null.is ∙ b.requires.tells ∙ same_kind _ _ _ _ _ v b.requires.here h))
    d.copy.ensures

returns-in-Boolean : tie.Need-returns-in-Boolean
returns-in-Boolean c =
    let d = c.before.before in
    let b = d.before.before.before.before.before in
    λ depth v h. rw (boolean_bytes _ v (sym d.in-Boolean.is ∙ b.requires.tells ∙ same_kind _ _ _ _ _ v b.requires.here h))
    d.write_boolean.ensures

returns-in-Number : tie.Need-returns-in-Number
returns-in-Number c =
    let d = c.before.before in
    let b = d.before.before.before.before.before.before in
    λ depth v h. number_written _ _ depth v h _ _ _ _ d.digits_end.ensures
    (sym d.in-Number.is ∙ b.requires.tells ∙ same_kind _ _ _ _ _ v b.requires.here h) d.copy-in-Number.ensures

returns-in_default : tie.Need-returns-in_default
returns-in_default c =
    let d = c.before.before in
    let b = d.before.before.before.before.before in
    let p = b.requires in
    let k = sym (left_string b.args.kind d.in_default.in_default-own.keys4 p.no_array p.no_object) ∙ p.tells in
    λ depth v h. rw (string_bytes _ _ depth v h (k ∙ same_kind _ _ _ _ _ v p.here h)) d.write_string.ensures

pub write_scalar_spec : {M : Type 1} → statement M
write_scalar_spec =
    tie.close (tie.spec (λ c. search rules) copy-requires (λ c. search rules) write_boolean-requires (λ c. search rules) digits_end-requires
    copy-requires-in-Number write_string-requires (λ c. search rules) returns-in-Null (λ c. search rules) returns-in-Boolean (λ c. search rules)
    returns-in-Number (λ c. search rules) returns-in_default)
