-- Reading the elements of an array from the left.
use Rattle.std.specs.Prelude.{Ok, Err}
use Prim.Native.Nat.{ℕ, ◌+◌, ◌<◌, ◌≤◌, max}
use mathlib.Core.Path.{◌≡◌, refl, sym, ap, ◌∙◌}
use mathlib.Core.List.{List, [], ◌∷◌, ◌++◌}
use mathlib.Core.Bool.{Bool, true, ◌&&◌, and-true, and_assoc}
use native.Mathlib.Omega.{arith}
use lib.ListN.{length, drop, get_or, length-append}
use Rattle.text_json.specs.Syntax.{Syntax, Elements, element, no_elements, array, elements}
use Rattle.text_json.specs.Read.{and_then, spaces, read_listed, read}
use Rattle.text_json.specs.Scan.{At}
use Rattle.text_json.proofs.Items.{items_from, prepend_all}
use Rattle.text_json.proofs.Grammar.Sound.{read_shorter}
use Rattle.text_content.specs.Value.{content, contents}
use Rattle.text_content.specs.Canonical.{canonical, ordered, ordered_values}
use Rattle.text_content.specs.Fault.{string_fault, string_faults, number_fault, number_faults, key_fault, key_faults}
use Rattle.text_content.proofs.Size.{size_of, size_of_elements, enclosed, size_canonical, size_empty, size_enclosed, size_elements_append}
use Rattle.text_tokens.specs.Summary.{summary, plain_summary, plus, own_key_count}
use Rattle.text_tokens.specs.Scanned.{ScansValue, Follows, plain_value}
use Rattle.text_scan.specs.Scanned.{read_array}
use Rattle.text_tokens.specs.declared.Summary.{Summary}
use Rattle.text_tokens.specs.declared.ScannedValue.{ScannedValue}
use Rattle.text_tokens.specs.declared.After.{After}
use Rattle.text_scan.proofs.Results.{IsValue, scans_stuck, value_later, value_size, read_nothing, listed_empty, listed_items, item_stuck, item_ends}
use Rattle.text_scan.proofs.Results.{item_sticks, item_more}

-- the faults, the length and the order of the elements so far, with the array's opening mark
pub array_sum : List Syntax → Summary
array_sum ts =
    record {
      string = string_faults (elements ts);
      number = number_faults (elements ts);
      key = key_faults (elements ts);
      size = 1 + size_of_elements (elements ts);
      ordered = ordered_values (contents (elements ts));
    }

-- a largest of faults, one element more at the end
module _ (fault : Syntax → ℕ) (faults : Elements → ℕ) (none : faults no_elements ≡ 0) (one : (t : Syntax) (es : Elements)
    → faults (element t es) ≡ max (fault t) (faults es)) where
  faults_snoc : (ts : List Syntax) (t : Syntax) → faults (elements (ts ++ (t ∷ []))) ≡ max (faults (elements ts)) (fault t)
  unfolding elements
  faults_snoc [] t = omega (arith, one t no_elements, none)
  faults_snoc (u ∷ ts) t =
      let ih = faults_snoc ts t in
      omega (arith, one u (elements (ts ++ (t ∷ []))), one u (elements ts))

string_none : string_faults no_elements ≡ 0
unfolding string_faults
string_none = refl

string_one : (t : Syntax) (es : Elements) → string_faults (element t es) ≡ max (string_fault t) (string_faults es)
unfolding string_faults
string_one t es = refl

number_none : number_faults no_elements ≡ 0
unfolding number_faults
number_none = refl

number_one : (t : Syntax) (es : Elements) → number_faults (element t es) ≡ max (number_fault t) (number_faults es)
unfolding number_faults
number_one t es = refl

key_none : key_faults no_elements ≡ 0
unfolding key_faults
key_none = refl

key_one : (t : Syntax) (es : Elements) → key_faults (element t es) ≡ max (key_fault t) (key_faults es)
unfolding key_faults
key_one t es = refl

-- the order of keys, one element more at the end
ordered_snoc : (ts : List Syntax) (t : Syntax)
    → ordered_values (contents (elements (ts ++ (t ∷ [])))) ≡ (ordered_values (contents (elements ts)) && ordered (content t))
unfolding elements contents ordered_values
ordered_snoc [] t = and-true (ordered (content t))
ordered_snoc (u ∷ ts) t =
    ap (λ (b : Bool). ordered (content u) && b) (ordered_snoc ts t)
    ∙ sym (and_assoc (ordered (content u)) (ordered_values (contents (elements ts))) (ordered (content t)))

one_size : (t : Syntax) → size_of_elements (elements (t ∷ [])) ≡ size_of t + 1
unfolding size_of_elements elements
one_size t = omega arith

sum_snoc : (ts : List Syntax) (t : Syntax) → plus (array_sum ts) (summary t) ≡ array_sum (ts ++ (t ∷ []))
unfolding array_sum plus summary
sum_snoc ts t = λ i. record { string = sym (strings) i; number = sym numbers i; key = sym keys i; size = sizes i; ordered = sym (ordered_snoc ts t) i }
  where
    strings : string_faults (elements (ts ++ (t ∷ []))) ≡ max (string_faults (elements ts)) (string_fault t)
    strings = faults_snoc string_fault string_faults string_none string_one ts t

    numbers : number_faults (elements (ts ++ (t ∷ []))) ≡ max (number_faults (elements ts)) (number_fault t)
    numbers = faults_snoc number_fault number_faults number_none number_one ts t

    keys : key_faults (elements (ts ++ (t ∷ []))) ≡ max (key_faults (elements ts)) (key_fault t)
    keys = faults_snoc key_fault key_faults key_none key_one ts t

    sizes : 1 + size_of_elements (elements ts) + length (canonical (content t)) + 1 ≡ 1 + size_of_elements (elements (ts ++ (t ∷ [])))
    sizes = omega (arith, size_elements_append ts (t ∷ []), size_canonical t, one_size t)

size_array : (es : Elements) → size_of (array es) ≡ enclosed (size_of_elements es)
unfolding size_of
size_array es = refl

no_size : size_of_elements no_elements ≡ 0
unfolding size_of
no_size = refl

-- the whole array's summary
sum_array : (ts : List Syntax) → 1 ≤ length ts → array_sum ts ≡ summary (array (elements ts))
unfolding array_sum summary string_fault number_fault key_fault content ordered
sum_array ts h = λ i.
    record {
      string = string_faults (elements ts);
      number = number_faults (elements ts);
      key = key_faults (elements ts);
      size = size i;
      ordered = ordered_values (contents (elements ts));
    }
  where
    some : (us : List Syntax) → 1 ≤ length us → 1 ≤ size_of_elements (elements us)
    some [] k = absurd (omega arith)
    some (u ∷ us) k = omega (arith, size_elements_append (u ∷ []) us, one_size u)

    outer : size_of (array (elements ts)) ≡ enclosed (size_of_elements (elements ts))
    outer = size_array (elements ts)

    size : 1 + size_of_elements (elements ts) ≡ length (canonical (content (array (elements ts))))
    size = sym (size_enclosed (size_of_elements (elements ts)) (some ts h)) ∙ sym outer ∙ size_canonical (array (elements ts))

sum_empty : summary (array no_elements) ≡ plain_summary 2
unfolding summary string_fault number_fault key_fault content ordered
sum_empty = λ i. record { string = 0; number = 0; key = 0; size = (sym (size_canonical (array no_elements)) ∙ size_array no_elements ∙ none) i; ordered = true }
  where
    none : enclosed (size_of_elements no_elements) ≡ 2
    none = ap enclosed no_size ∙ size_empty

-- Reading goes on at i with these elements done, after the opening mark at `at`.
pub record ArrayScanned (s : List ℕ) (at depth i : ℕ) (sum : Summary) : Type 0 where
  pub done : List Syntax
  pub reads : read_listed (read depth) 0x5D (drop at s) ≡ prepend_all done (items_from (read depth) 0x5D (drop i s))
  pub holds : sum ≡ array_sum done
  pub from : at ≤ i
  pub within : i ≤ length s
  pub small : sum.size + at ≤ i + 1

module _ (s : List ℕ) (at depth : ℕ) where
  -- If only spaces stand before the closing bracket, the array ends after it and has a canonical form of two bytes.
  pub empty : (i : ℕ) → (at ≤ i) × At s i (spaces (drop at s)) → i < length s → get_or s i 0 ≡ 0x5D
      → ScansValue s (read_array depth (drop at s)) (plain_value (i + 1) 2)
  unfolding read_array and_then elements own_key_count
  empty i p w e = rw (listed_empty (read depth) 0x5D s at i p.1 w e) ((omega arith, refl), sym sum_empty, refl)

  -- If no closing bracket stands after the first spaces, reading goes on there with no element done.
  pub start : (i : ℕ) → (at ≤ i) × At s i (spaces (drop at s)) → (i < length s → get_or s i 0 ≡ 0x5D → ⊥)
      → ArrayScanned s at depth i (plain_summary 1)
  unfolding prepend_all array_sum elements string_faults number_faults key_faults contents ordered_values
  start i p n =
      record {
        done = [];
        reads = listed_items (read depth) 0x5D s at i p.1 n;
        holds = λ k. record { string = 0; number = 0; key = 0; size = (sym (ap (λ (m : ℕ). 1 + m) no_size)) k; ordered = true };
        from = p.0;
        within = p.1.0;
        small = omega (arith, p.0);
      }

module _ {s : List ℕ} {at depth i : ℕ} {sum : Summary} (p : ArrayScanned s at depth i sum) where
  -- the element at i is stuck
  pub stuck_element : (e : ℕ) → ScansValue s (read depth (drop i s)) (Err e) → ScansValue s (read_array depth (drop at s)) (Err e)
  unfolding read_array and_then
  stuck_element e q =
      let r = scans_stuck s (read depth (drop i s)) e q in
      rw (item_stuck (read depth) 0x5D (read_shorter depth) (read_nothing depth) s i p.done (read_listed (read depth) 0x5D (drop at s)) p.reads e r.1)
      (r.0, refl)

  module _ {f : ScannedValue} (q : IsValue s (read depth (drop i s)) f) where
    -- An element that is read at position `i` ends after `i`.
    pub later : i < f.end
    later = value_later s depth i f p.within q

    -- The canonical form so far with that of the element is no longer than the array's text up to the element's end.
    pub fits : sum.size + f.sum.size + at ≤ f.end + 1
    fits = omega (arith, value_size s depth i f p.within q, p.small)

    now_holds : plus sum f.sum ≡ array_sum (p.done ++ (q.tree ∷ []))
    now_holds = ap (λ (x : Summary). plus x f.sum) p.holds ∙ ap (plus (array_sum p.done)) q.sum ∙ sum_snoc p.done q.tree

    -- If the closing bracket follows the element, the array is read, and its summary is that of the elements done and this one.
    pub ends : (e : ℕ) → Follows s f.end 0x5D (Ok (After.End e))
        → ScansValue s (read_array depth (drop at s)) (Ok (record { end = e; count = 0; sum = plus sum f.sum }))
    unfolding read_array and_then own_key_count
    ends e w =
        rw (item_ends (read depth) 0x5D (read_shorter depth) (read_nothing depth) s i p.done (read_listed (read depth) 0x5D (drop at s)) p.reads
        q.tree f.end q.reads e w)
        ((w.1, refl), now_holds ∙ sum_array (p.done ++ (q.tree ∷ [])) (omega (arith, length-append p.done (q.tree ∷ []))), refl)

    -- If neither a comma nor the closing bracket follows the element, reading the array is stuck there.
    pub sticks : (e : ℕ) → Follows s f.end 0x5D (Err e) → ScansValue s (read_array depth (drop at s)) (Err e)
    unfolding read_array and_then
    sticks e w =
        rw (item_sticks (read depth) 0x5D (read_shorter depth) (read_nothing depth) s i p.done (read_listed (read depth) 0x5D (drop at s)) p.reads
        q.tree f.end q.reads e w)
        (w.0.0, refl)

    -- If a comma follows the element, reading goes on at the next one with this element done.
    pub goes_on : (j : ℕ) → Follows s f.end 0x5D (Ok (After.More j)) → ArrayScanned s at depth j (plus sum f.sum)
    unfolding plus
    goes_on j w =
        record {
          done = p.done ++ (q.tree ∷ []);
          reads = item_more (read depth) 0x5D (read_shorter depth) (read_nothing depth) s i p.done (read_listed (read depth) 0x5D (drop at s)) p.reads
              q.tree f.end q.reads j w;
          holds = now_holds;
          from = omega (arith, p.from, later, w.0);
          within = w.1;
          small = omega (arith, fits, w.0);
        }
