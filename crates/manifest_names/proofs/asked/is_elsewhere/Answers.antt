use mathlib.Core.Path.{sym, ap, ◌∙◌}
use mathlib.Core.Bool.{not}
use native.Mathlib.Omega.{arith}
use Rattle.manifest_names.proofs.Elsewhere.{names_alone, unnamed, contents_names, some_names, place_within, its_key, elsewhere}
use Rattle.manifest_names.proofs.asked.is_elsewhere.Goals as goal

pub find_headed-requires : goal.find_headed-requires
find_headed-requires c = (some_names c.requires.0, c.requires.1, c.requires.2)

pub returns-in_default : goal.returns-in_default
returns-in_default c = λ xs m. sym (unnamed _ _ xs (c.in_default.ensures (names_alone xs) (contents_names m)))

pub offset_bounds-keys-p : goal.offset_bounds-keys-p
offset_bounds-keys-p c =
    let m = c.requires.0 in
    omega (arith, place_within m.sorted _ _ (c.in-Some.ensures (names_alone m.aliases) (contents_names m.sorted)))

pub bounds-keys-p : goal.bounds-keys-p
bounds-keys-p c =
    let m = c.requires.0 in
    place_within m.sorted _ _ (c.in-Some.ensures (names_alone m.aliases) (contents_names m.sorted))

pub equal-requires : goal.equal-requires
equal-requires c =
    let m = c.requires.0 in
    (c.requires.3, its_key m.sorted _ _ (c.in-Some.ensures (names_alone m.aliases) (contents_names m.sorted)))

pub returns : goal.returns
returns c =
    let n = c.requires.0 in
    λ xs m. ap not c.equal.ensures ∙ elsewhere m _ _ (c.in-Some.ensures (names_alone n.aliases) (contents_names n.sorted)) _
