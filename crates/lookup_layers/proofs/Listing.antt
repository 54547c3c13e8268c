-- Laws of layer lists: what is written is read back, nothing else is read, and a layer is listed exactly if it is there.
use Rattle.std.specs.Prelude.{Option, None, Some}
use Prim.Native.Nat.{ℕ, zero, suc, ◌≤◌, ◌<◌}
use mathlib.Core.Path.{◌≡◌, refl, sym, ap, ◌∙◌}
use mathlib.Core.Logic.{◌↔◌}
use mathlib.Core.Bool.{true, ◌||◌}
use mathlib.Core.List.{List, [], ◌∷◌, ◌++◌, append_assoc, Memᴰ as In}
use native.Mathlib.Omega.{arith}
use lib.Dec.{eqb}
use lib.ListN.{length}
use borrow.Author.Tests.{eqb-true, eq-eqb}
use Rattle.laws.specs.Order.{same}
use Rattle.laws.proofs.Any.{any_both, in_any, any_in}
use Rattle.laws.proofs.Order.{by_test, false_true, same_eq, same_refl}
use Rattle.reference_digests.specs.Algorithms.{byte_of}
use Rattle.reference_digests.proofs.Digests.{byte_same}
use Rattle.lookup_layers.specs.Layers.{LayerDigest, entry_of, list_of, AllSized, none_sized, sized, First, entry, no_entry, first_of, and_then, continued}
use Rattle.lookup_layers.specs.Layers.{read_list, layers_in, same_layer, is_listed}
use Rattle.lookup_layers.proofs.Entries.{read_first, first_read, rest_shorter}

list_end : (n : ℕ) → read_list n [] ≡ Some []
unfolding read_list
list_end zero = refl
list_end (suc n) = refl

enough_more : (n m : ℕ) (s : List ℕ) → length s ≤ suc n → length s ≤ m
    → ((k : ℕ) (r : List ℕ) → length r ≤ n → length r ≤ k → read_list n r ≡ read_list k r) → read_list (suc n) s ≡ read_list m s
unfolding read_list continued
enough_more n m [] h l ih = sym (list_end m)
enough_more n zero (b ∷ s) h l ih = absurd (omega arith)
enough_more n (suc m) (b ∷ s) h l ih = by_first (first_of (b ∷ s)) refl
  where
    by_first : (p : First) → first_of (b ∷ s) ≡ p → continued (λ r. read_list n r) p ≡ continued (λ r. read_list m r) p
    by_first no_entry e = refl
    by_first (entry d r) e =
        let k = rest_shorter (b ∷ s) d r e in ap (and_then d) (ih m r (omega (arith, k)) (omega (arith, k)))

enough_none : (m : ℕ) (s : List ℕ) → length s ≤ 0 → read_list 0 s ≡ read_list m s
enough_none m [] h = list_end 0 ∙ sym (list_end m)
enough_none m (b ∷ s) h = absurd (omega arith)

-- Where as many entries may be read as there are bytes, more change nothing.
pub enough : (n m : ℕ) (s : List ℕ) → length s ≤ n → length s ≤ m → read_list n s ≡ read_list m s
enough zero m s h l = enough_none m s h
enough (suc n) m s h l = enough_more n m s h l (enough n)

-- No bytes are the list of no layers.
pub layers_end : layers_in [] ≡ Some []
unfolding layers_in
layers_end = list_end 0

-- The layers of bytes that begin with an entry are its layer and those of the rest.
pub layers_entry : (s : List ℕ) (d : LayerDigest) (r : List ℕ) → first_of s ≡ entry d r → layers_in s ≡ and_then d (layers_in r)
unfolding layers_in read_list continued first_of
layers_entry [] d r e = let z : ◌≡◌ {A = ℕ} 0 1 = cc in absurd (omega arith)
layers_entry (b ∷ s) d r e =
    ap (continued (λ t. read_list (length s) t)) e
    ∙ ap (and_then d) (enough (length s) (length r) r (omega (arith, rest_shorter (b ∷ s) d r e)) (omega arith))

-- Some bytes that begin with no entry are no layer list.
pub layers_none : (s : List ℕ) → 0 < length s → first_of s ≡ no_entry → layers_in s ≡ None
unfolding layers_in read_list continued
layers_none [] h e = absurd (omega arith)
layers_none (b ∷ s) h e = ap (continued (λ t. read_list (length s) t)) e

-- What is written is read back.
pub list_read_back : (ds : List LayerDigest) → AllSized ds → layers_in (list_of ds) ≡ Some ds
unfolding list_of and_then
list_read_back [] h = layers_end
list_read_back (d ∷ ds) (sized e h) =
    layers_entry (entry_of d ++ list_of ds) d (list_of ds) (read_first d (list_of ds) e) ∙ ap (and_then d) (list_read_back ds h)

-- what the bytes are that some layers are read from
abbrev Told : List ℕ → List LayerDigest → Type 0
Told s ds = (list_of ds ≡ s) × AllSized ds

told_none : (ds : List LayerDigest) → Some [] ≡ Some ds → Told [] ds
unfolding list_of
told_none [] e = (refl, none_sized)
told_none (d ∷ ds) e = let f : [] ≡ d ∷ ds = cc in let z : ◌≡◌ {A = ℕ} 0 1 = cc in absurd (omega arith)

no_layers : {C : Type 0} (ds : List LayerDigest) → None ≡ Some ds → C
no_layers ds e = let z : ◌≡◌ {A = ℕ} 0 1 = cc in absurd (omega arith)

told_full : (s : List ℕ) (ds : List LayerDigest) → read_list 0 s ≡ Some ds → Told s ds
unfolding read_list
told_full [] ds e = told_none ds e
told_full (b ∷ s) ds e = no_layers ds e

told_more : (n : ℕ) (s : List ℕ) (ds : List LayerDigest) → read_list (suc n) s ≡ Some ds
    → ((r : List ℕ) (es : List LayerDigest) → read_list n r ≡ Some es → Told r es) → Told s ds
unfolding read_list continued and_then list_of
told_more n [] ds e ih = told_none ds e
told_more n (b ∷ s) ds e ih = by_first (first_of (b ∷ s)) refl e
  where
    by_rest : (d : LayerDigest) (r : List ℕ) → first_of (b ∷ s) ≡ entry d r → (o : Option (List LayerDigest)) → read_list n r ≡ o
        → and_then d o ≡ Some ds → Told (b ∷ s) ds
    by_rest d r q None k f = no_layers ds f
    by_rest d r q (Some es) k f =
        let w = first_read (b ∷ s) d r q in
        let t = ih r es k in
        let g : d ∷ es ≡ ds = cc in
        rw (← g) (ap (λ (l : List ℕ). entry_of d ++ l) t.0 ∙ sym w.0, sized w.1 t.1)

    by_first : (p : First) → first_of (b ∷ s) ≡ p → continued (λ r. read_list n r) p ≡ Some ds → Told (b ∷ s) ds
    by_first no_entry q f = no_layers ds f
    by_first (entry d r) q f = by_rest d r q (read_list n r) refl f

told : (n : ℕ) (s : List ℕ) (ds : List LayerDigest) → read_list n s ≡ Some ds → Told s ds
told zero s ds e = told_full s ds e
told (suc n) s ds e = told_more n s ds e (told n)

module _ (s : List ℕ) (ds : List LayerDigest) (e : layers_in s ≡ Some ds) where
  -- Nothing else is read: the bytes are the list of the layers, so a list of layers has one form.
  pub list_read : list_of ds ≡ s
  unfolding layers_in
  list_read = (told (length s) s ds e).0

  -- Every digest that is read has the length of its algorithm.
  pub read_sized : AllSized ds
  unfolding layers_in
  read_sized = (told (length s) s ds e).1

-- The bytes of two lists of layers are one after the other.
pub list_both : (ds es : List LayerDigest) → list_of (ds ++ es) ≡ list_of ds ++ list_of es
unfolding list_of
list_both [] es = refl
list_both (d ∷ ds) es = rw (list_both ds es) (sym (append_assoc (entry_of d) (list_of ds) (list_of es)))

-- Two lists whose digests have the lengths of their algorithms are one such list.
pub sized_both : {ds es : List LayerDigest} → AllSized ds → AllSized es → AllSized (ds ++ es)
sized_both none_sized k = k
sized_both (sized e h) k = sized e (sized_both h k)

-- The layers of two lists one after the other are those of the first and then those of the second.
pub layers_both : (s t : List ℕ) (ds es : List LayerDigest) → layers_in s ≡ Some ds → layers_in t ≡ Some es → layers_in (s ++ t) ≡ Some (ds ++ es)
layers_both s t ds es e f =
    ap layers_in (sym (list_both ds es ∙ rw (list_read s ds e, list_read t es f)))
    ∙ list_read_back (ds ++ es) (sized_both (read_sized s ds e) (read_sized t es f))

-- A layer is in two lists one after the other exactly if it is in one of them, so a layer that is listed twice is listed like any other.
pub listed_both : (d : LayerDigest) (ds es : List LayerDigest) → is_listed d (ds ++ es) ≡ (is_listed d ds || is_listed d es)
unfolding is_listed
listed_both d ds es = any_both (same_layer d) ds es

-- Layers that are told to be one have one algorithm and one digest.
pub same_layer_equal : (d e : LayerDigest) → same_layer d e ≡ true → d ≡ e
unfolding same_layer
same_layer_equal d e f =
    by_test (eqb (byte_of d.algorithm) (byte_of e.algorithm)) (λ q. by_bytes q (rw q at f)) (λ q. false_true (rw q at f))
  where
    by_bytes : eqb (byte_of d.algorithm) (byte_of e.algorithm) ≡ true → same d.bytes e.bytes ≡ true → d ≡ e
    by_bytes q g =
        let a : d.algorithm ≡ e.algorithm = byte_same d.algorithm e.algorithm (eqb-true (byte_of d.algorithm) (byte_of e.algorithm) q) in
        let b : d.bytes ≡ e.bytes = same_eq d.bytes e.bytes g in
        λ i. record { algorithm = a i; bytes = b i }

-- A layer is the same as itself.
pub layer_same : (d : LayerDigest) → same_layer d d ≡ true
unfolding same_layer
layer_same d = rw (eq-eqb (byte_of d.algorithm) (byte_of d.algorithm) refl) (same_refl d.bytes)

-- A layer is listed exactly if a layer with its algorithm and its digest stands in the list.
pub listed : (d : LayerDigest) (ds : List LayerDigest) → (is_listed d ds ≡ true) ↔ In d ds
unfolding is_listed
listed d ds = (λ e. listed_in (any_in (same_layer d) ds e), λ m. in_any (same_layer d) m (layer_same d))
  where
    listed_in : (x : LayerDigest) × In x ds × (same_layer d x ≡ true) → In d ds
    listed_in p = rw (same_layer_equal d p.0 p.2) p.1
