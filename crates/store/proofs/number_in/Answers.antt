-- The questions are asked in the order of their numbers, and the parts of question 11 one after the other.
use Rattle.std.proofs.Common.{◌≡◌, ℕ, List, Bool, not, ◌||◌, sym, ap, ◌∙◌, arith, length, get_or, ◌+◌, ◌<◌, ◌≤◌, false}
use Rattle.laws.specs.Any.{any_of}
use Rattle.manifest.proofs.Opening.{opened_short}
use Rattle.store_record.specs.Ids.{share_id, id_twice}
use Rattle.store_record.specs.Store.{most_images, read_records}
use Rattle.store_record.specs.Reading.{Fills, images_in}
use Rattle.store_record.specs.declared.Survey.{Survey}
use Rattle.store_record.proofs.Walks.{images_length}
use Rattle.store_keys.specs.Clash.{clash, any_clash}
use Rattle.store_open.specs.Held.{is_unfit, is_broken}
use Rattle.store_open.proofs.Holding.{space_broken}
use Rattle.store_open.proofs.Opening.{unread_broken, unfit_broken, apart_broken}
use Rattle.store_append.specs.Append.{image_with}
use Rattle.store.proofs.Numbering.{shares_held, clashes_held, record_size, size_small, read_among, number_11, number_12, number_rest}
use Rattle.store.proofs.number_in.Goals as goal

-- Whether the bytes are a store is answered once the manifests are opened and the images compared.
module _ (b : List ℕ) (small : (j : ℕ) → get_or b j 0 < 256) (left : ℕ) where
  same_broken : is_broken (length b + left) (read_records most_images b) ≡ is_broken (length b) (read_records most_images b)
  same_broken = space_broken b small (length b + left) (omega arith)

  answered : (v : Survey) → Fills b v → any_of is_unfit (images_in b v) ≡ false → {t : Bool}
      → t ≡ not (id_twice (images_in b v) || any_clash (images_in b v)) → is_broken (length b + left) (read_records most_images b) ≡ not t
  answered v f fit apart = same_broken ∙ apart_broken b small v f fit apart

pub returns-in_default : goal.returns-in_default
returns-in_default c = number_11 _ _ _ (unread_broken c.args.b.now (length c.args.b.now + c.args.left) c.in_default.ensures)

pub returns-in_default-open_all : goal.returns-in_default-open_all
returns-in_default-open_all c =
    let b = c.args.b.now in
    let small : (j : ℕ) → get_or b j 0 < 256 = λ j. omega (arith, c.type_inv.b j) in
    number_11 _ _ _ (same_broken b small c.args.left ∙ unfit_broken b small c.in-Some.survey c.in-Some.ensures c.in_default-open_all.ensures)

pub returns-then-not-are_apart : goal.returns-then-not-are_apart
returns-then-not-are_apart c =
    let o = c.in-Some-open_all.ensures in
    number_11 _ _ _ (answered c.args.b.now (λ j. omega (arith, c.type_inv.b j)) c.args.left _ c.in-Some.ensures o.0 c.are_apart.ensures
    ∙ ap not c.if-not-are_apart.true)

pub returns-then-is_held : goal.returns-then-is_held
returns-then-is_held c =
    let a = c.args in
    let o = c.in-Some-open_all.ensures in
    let image = image_with a.a a.signer.now a.digest.now a.text.now in
    number_12 _ _ _
    (answered a.b.now (λ j. omega (arith, c.type_inv.b j)) a.left _ c.in-Some.ensures o.0 c.are_apart.ensures ∙ ap not c.if-not-are_apart.false)
    (ap (any_of (share_id image)) (read_among _ _ o.1.fills.images) ∙ shares_held a.a a.signer.now a.digest.now a.text.now _
    ∙ sym c.is_held.ensures ∙ c.if-is_held.true)

pub number_left-requires : goal.number_left-requires
number_left-requires c =
    let a = c.args in
    let short = opened_short _ _ c.requires.0.opens in
    (short, size_small a.a a.signer.now a.digest.now a.text.now c.requires.1 short)

pub returns : goal.returns
returns c =
    let a = c.args in
    let o = c.in-Some-open_all.ensures in
    let f = o.1.fills in
    let v = c.in-Some.survey in
    let image = image_with a.a a.signer.now a.digest.now a.text.now in
    let held = read_among _ _ f.images in
    let fits : v.count ≤ length v.records = omega (arith, f.few) in
    number_rest a.b.now (λ j. omega (arith, c.type_inv.b j)) _ f.images a.left image
    (answered a.b.now (λ j. omega (arith, c.type_inv.b j)) a.left v c.in-Some.ensures o.0 c.are_apart.ensures ∙ ap not c.if-not-are_apart.false)
    (ap (any_of (share_id image)) held ∙ shares_held a.a a.signer.now a.digest.now a.text.now _ ∙ sym c.is_held.ensures ∙ c.if-is_held.false)
    (ap (any_of (clash image)) held ∙ clashes_held a.a a.signer.now a.digest.now a.text.now c.requires.0 a.b.now _ ∙ sym c.clashes-clashing.ensures)
    _ _ _ (record_size a.a a.signer.now a.digest.now a.text.now c.requires.1) (images_length a.b.now v fits) f.few c.number_left.ensures
