-- The objects of the aliases of layers: each is one of the manifest's objects, a name has one object, and manifests that do not conflict have
-- one object for a name of both. Assumes nothing.
use Prim.Native.Nat.{ℕ}
use mathlib.Core.Path.{◌≡◌, sym, ap, subst, ◌∙◌}
use mathlib.Core.Logic.{⊎_elim}
use mathlib.Core.List.Memᴰ
use mathlib.Core.List.{List, [], ◌∷◌, map, Memᴰ as In}
use mathlib.Core.Bool.{Bool, true, false, not, ◌&&◌}
use Rattle.laws.specs.Order.{same}
use Rattle.laws.proofs.Any.{or_none, none_passes, any_map}
use Rattle.laws.proofs.Order.{by_test, false_true, same_eq, same_ne, same_refl}
use Rattle.text_content.specs.Value.{Fields, no_fields, field}
use Rattle.reference.specs.References.{Layer, layer}
use Rattle.reference.specs.Matches.{is_one_of}
use Rattle.manifest_fields.specs.Accessors.{contents_of, texts}
use Rattle.manifest_values.specs.Values.{entries}
use Rattle.manifest_repeat.specs.Repeated.{repeated}
use Rattle.manifest_heads.specs.Contents.{Named, named_in, is_elsewhere, stands_elsewhere, conflict as conflict_by_key}
use Rattle.manifest_heads.proofs.Any.{one_of_any}
use Rattle.manifest.specs.Manifest.{manifest_of, Alias, aliases_to, aliases_of, contents}
use Rattle.manifest.specs.Names.{conflict, keys_of, objects}
use Rattle.manifest.proofs.Aliases.{contents_unrepeated}
use Rattle.manifest_aliases.proofs.Objects.{aliases_named, conflict_keys}

-- the aliases of one object
object_to : (l : Layer) (ns : List (List ℕ)) {a : Alias} → In a (aliases_to l ns) → a.object ≡ l
unfolding aliases_to
object_to l [] m = absurd (Memᴰ.not-nil m)
object_to l (n ∷ ns) {a} m = ⊎_elim (ap (λ (x : Alias). x.object)) (λ (q : In a (aliases_to l ns)). object_to l ns q) (Memᴰ.cases_cons m)

object_of : (fs : Fields) {a : Alias} → In a (aliases_of fs) → In a.object (keys_of fs)
unfolding aliases_of keys_of
object_of no_fields m = absurd (Memᴰ.not-nil m)
object_of (field k v fs) {a} m =
    ⊎_elim
    (λ (q : In a (aliases_to (layer k) (texts (entries v)))). In.head (object_to (layer k) (texts (entries v)) q))
    (λ (q : In a (aliases_of fs)). In.tail (object_of fs q))
    (Memᴰ.append_cases (aliases_to (layer k) (texts (entries v))) m)

-- The object of an alias of a layer is one of the manifest's objects.
pub object_listed : (s : List ℕ) {a : Alias} → In a (contents s) → In a.object (objects s)
unfolding contents objects
object_listed s m = object_of (contents_of (manifest_of s)) m

-- the names of aliases
abbrev name : Alias → List ℕ
name a = a.name

-- a name that stands in no alias of a list
not_among : (n : List ℕ) (xs : List Alias) {b : Alias} → is_one_of n (map name xs) ≡ false → In b xs → n ≡ b.name → ⊥
not_among n xs {b} e m q =
    same_ne n b.name (none_passes (λ (x : Alias). same n x.name) (sym (any_map name (same n) xs) ∙ sym (one_of_any n (map name xs)) ∙ e) m) q

stands_once : {a b : Alias} {xs : List Alias} → repeated (map name xs) ≡ false → In a xs → In b xs → a.name ≡ b.name → a ≡ b
unfolding repeated
stands_once e (In.head p) (In.head q) f = p ∙ sym q
stands_once e (In.head {x = x} {xs = xs} p) (In.tail m) f =
    absurd (not_among x.name xs (or_none (is_one_of x.name (map name xs)) (repeated (map name xs)) e).0 m (sym (ap name p) ∙ f))
stands_once e (In.tail m) (In.head {x = x} {xs = xs} p) f =
    absurd (not_among x.name xs (or_none (is_one_of x.name (map name xs)) (repeated (map name xs)) e).0 m (sym (ap name p) ∙ sym f))
stands_once e (In.tail {x = x} {xs = xs} m) (In.tail k) f =
    stands_once (or_none (is_one_of x.name (map name xs)) (repeated (map name xs)) e).1 m k f

-- A name of a layer has one object in a manifest.
pub one_object : (s : List ℕ) {a b : Alias} → In a (contents s) → In b (contents s) → a.name ≡ b.name → a.object ≡ b.object
one_object s m k e = ap (λ (x : Alias). x.object) (stands_once (contents_unrepeated s) m k e)

-- an alias by its key
record Keyed (s : List ℕ) (a : Alias) : Type 0 where
  named : Named
  stands : In named (named_in (contents_of (manifest_of s)))
  name : named.name ≡ a.name
  object : layer named.key ≡ a.object

keyed : (s : List ℕ) {a : Alias} → In a (contents s) → Keyed s a
unfolding contents
keyed s {a} m =
    let w = Memᴰ.of_map _ (named_in (contents_of (manifest_of s))) (subst (In a) (aliases_named (contents_of (manifest_of s))) m) in
    record { named = w.0; stands = w.1; name = ap (λ (x : Alias). x.name) w.2; object = ap (λ (x : Alias). x.object) w.2 }

same_key : (x y : Named) → is_elsewhere x.name x.key y ≡ false → x.name ≡ y.name → x.key ≡ y.key
unfolding is_elsewhere
same_key x y e f =
    by_test (same x.key y.key)
    (λ g. same_eq x.key y.key g)
    (λ g. false_true (sym e ∙ (λ i. same (f i) y.name && not (g i)) ∙ ap (λ (b : Bool). b && true) (same_refl y.name)))

-- Where the names of two manifests do not conflict, a name of both has one object.
pub agreed :
    (t s : List ℕ) → conflict (contents t) (contents s) ≡ false → {a b : Alias} → In a (contents t) → In b (contents s) → a.name ≡ b.name
    → a.object ≡ b.object
unfolding conflict_by_key stands_elsewhere
agreed t s e m k f =
    let x = keyed t m in
    let y = keyed s k in
    let ys = named_in (contents_of (manifest_of s)) in
    let h = none_passes (λ (z : Named). stands_elsewhere z.name z.key ys) (conflict_keys t s ∙ e) x.stands in
    let g = none_passes _ h y.stands in
    sym x.object ∙ ap layer (same_key x.named y.named g (x.name ∙ f ∙ sym y.name)) ∙ y.object
