-- Laws of records: what is written is read back, and nothing else is read.
use Rattle.std.specs.Prelude.{Option, None, Some}
use Prim.Native.Nat.{ℕ, ◌+◌, ◌*◌, ◌≤◌, ◌<◌}
use mathlib.Core.Path.{◌≡◌, refl, sym, ap, ◌∙◌}
use mathlib.Core.List.{List, [], ◌∷◌, ◌++◌, append_assoc, append-nil}
use native.Mathlib.Omega.{arith}
use native.Mathlib.Decide.{dec_le}
use borrow.Author.Tests.{le-leb, lt-leb}
use lib.ListN.{length, take, drop, get_or, length-append, length-drop, take-append-drop}
use lib.Seq.{take_at, drop_at, drop-drop, length-take-le}
use Rattle.reference_digests.specs.Algorithms.{digest_bytes, byte_of, numbered}
use Rattle.reference_digests.specs.declared.algorithm.Algorithm.{Algorithm}
use Rattle.reference_digests.proofs.Digests.{digest_bounds, numbered_byte, byte_numbered}
use Rattle.reference.specs.References.{Id, image_id}
use Rattle.store_varint.specs.Varint.{varint, read_varint, Parsed, number, no_number}
use Rattle.store_varint.proofs.Laws.{varint_read_back, varint_read, varint_positive, varint_short}
use Rattle.store_record.specs.Image.{Image}
use Rattle.store_record.specs.Record.{id_bytes, ids_bytes, body_of, record_of, head_of, head_size, Shaped, body_under, read_body, image, no_image, before_rest}
use Rattle.store_record.specs.Record.{read_sized, read_record}

-- The record of an image with one ID is its head and then the manifest.
pub head_record : (i : Id) (t : List ℕ) → record_of (record { ids = i ∷ []; text = t }) ≡ head_of i (length t) ++ t
unfolding record_of body_of ids_bytes head_of
head_record i t = simp (append-nil, append_assoc, length-append)

-- The length of an ID's bytes.
pub id_length : (a : Algorithm) (s m : List ℕ) → length s ≡ digest_bytes a → length m ≡ digest_bytes a
    → length (id_bytes (image_id a s m)) ≡ 1 + 2 * digest_bytes a
unfolding id_bytes
id_length a s m h l = omega (arith, length-append s m)

-- A head is as long as `head_size` says.
pub head_length : (a : Algorithm) (s m : List ℕ) (n : ℕ) → length s ≡ digest_bytes a → length m ≡ digest_bytes a
    → length (head_of (image_id a s m) n) ≡ head_size a n
unfolding head_of head_size
head_length a s m n h l =
    length-append (varint (length (id_bytes (image_id a s m)) + n)) (id_bytes (image_id a s m))
    ∙ ap (λ (k : ℕ). length (varint (k + n)) + k) (id_length a s m h l)

-- Bytes that begin with no algorithm's byte are no body.
pub body_unknown : (b : ℕ) (s : List ℕ) → numbered b ≡ None → read_body (b ∷ s) ≡ None
unfolding read_body body_under
body_unknown b s e = rw e

-- A body whose digests are cut is none.
pub body_cut : (a : Algorithm) (b : ℕ) (s : List ℕ) → numbered b ≡ Some a → length s < 2 * digest_bytes a → read_body (b ∷ s) ≡ None
unfolding read_body body_under
body_cut a b s e h = rw e (rw (lt-leb (2 * digest_bytes a) (length s) h, body_under))

-- A body with both digests is an image.
pub body_whole : (a : Algorithm) (b : ℕ) (s : List ℕ) → numbered b ≡ Some a → 2 * digest_bytes a ≤ length s
    → read_body (b ∷ s)
    ≡ Some (record {
      ids = image_id a (take (digest_bytes a) s) (take (digest_bytes a) (drop (digest_bytes a) s)) ∷ [];
      text = drop (2 * digest_bytes a) s;
    })
unfolding read_body body_under
body_whole a b s e h = rw e (rw (le-leb (2 * digest_bytes a) (length s) h, body_under))

twice : (n : ℕ) (s : List ℕ) → drop (2 * n) s ≡ drop n (drop n s)
twice n s = let e : 2 * n ≡ n + n = omega arith in ap (λ (k : ℕ). drop k s) e ∙ sym (drop-drop n n s)

-- A body is read from its parts.
pub read_parts : (a : Algorithm) (s m t : List ℕ) → length s ≡ digest_bytes a → length m ≡ digest_bytes a
    → read_body (byte_of a ∷ (s ++ (m ++ t))) ≡ Some (record { ids = image_id a s m ∷ []; text = t })
read_parts a s m t h l =
    body_whole a (byte_of a) (s ++ (m ++ t)) (numbered_byte a) (omega (arith, length-append s (m ++ t), length-append m t))
    ∙ rw (first, second, third)
  where
    first : take (digest_bytes a) (s ++ (m ++ t)) ≡ s
    first = take_at s (m ++ t) (digest_bytes a) h

    second : take (digest_bytes a) (drop (digest_bytes a) (s ++ (m ++ t))) ≡ m
    second = ap (take (digest_bytes a)) (drop_at s (m ++ t) (digest_bytes a) h) ∙ take_at m t (digest_bytes a) l

    third : drop (2 * digest_bytes a) (s ++ (m ++ t)) ≡ t
    third =
        twice (digest_bytes a) (s ++ (m ++ t)) ∙ ap (drop (digest_bytes a)) (drop_at s (m ++ t) (digest_bytes a) h)
        ∙ drop_at m t (digest_bytes a) l

-- the body of an image with one ID, part by part
parts : (a : Algorithm) (s m t : List ℕ) → body_of (record { ids = image_id a s m ∷ []; text = t }) ≡ byte_of a ∷ (s ++ (m ++ t))
unfolding body_of ids_bytes id_bytes
parts a s m t = simp (append-nil, append_assoc)

-- an image by its parts
shape : (x : Image) (h : Shaped x) → x ≡ record { ids = image_id h.algorithm h.signer h.manifest ∷ []; text = x.text }
shape x h = rw h.ids

-- The body of an image is read back.
pub body_read_back : (x : Image) → Shaped x → read_body (body_of x) ≡ Some x
body_read_back x h =
    ap (λ (y : Image). read_body (body_of y)) (shape x h) ∙ ap read_body (parts h.algorithm h.signer h.manifest x.text)
    ∙ read_parts h.algorithm h.signer h.manifest x.text h.signer_size h.manifest_size ∙ ap Some (sym (shape x h))

-- A record of n bytes that are not all there is none.
pub sized_short : (n : ℕ) (r : List ℕ) → length r < n → read_sized (number n r) ≡ no_image
unfolding read_sized
sized_short n r h = rw (lt-leb n (length r) h, read_sized)

-- A record of n bytes is what its bytes are.
pub sized_whole : (n : ℕ) (r : List ℕ) → n ≤ length r → read_sized (number n r) ≡ before_rest (read_body (take n r)) (drop n r)
unfolding read_sized
sized_whole n r h = rw (le-leb n (length r) h, read_sized)

-- The record of an image is read back, whatever follows it.
pub record_read_back : (x : Image) → Shaped x → (r : List ℕ) → read_record (record_of x ++ r) ≡ image x r
unfolding read_record record_of before_rest
record_read_back x h r =
    let b = body_of x in
    ap (λ (l : List ℕ). read_sized (read_varint l)) (append_assoc (varint (length b)) b r) ∙ ap read_sized (varint_read_back (length b) (b ++ r))
    ∙ sized_whole (length b) (b ++ r) (omega (arith, length-append b r))
    ∙ rw (take_at b r (length b) refl, drop_at b r (length b) refl, body_read_back x h)

-- The bytes of a body are its byte, its digests and its text.
pub body_parts : (a : Algorithm) (b : ℕ) (s : List ℕ) → numbered b ≡ Some a
    → b ∷ s
    ≡ body_of (record {
      ids = image_id a (take (digest_bytes a) s) (take (digest_bytes a) (drop (digest_bytes a) s)) ∷ [];
      text = drop (2 * digest_bytes a) s;
    })
body_parts a b s e =
    let n = digest_bytes a in
    rw (twice n s) (ap (λ (c : ℕ). c ∷ s) (byte_numbered b a e)
    ∙ ap (λ (l : List ℕ). byte_of a ∷ l) (sym (take-append-drop n s) ∙ ap (λ (l : List ℕ). take n s ++ l) (sym (take-append-drop n (drop n s))))
    ∙ sym (parts a (take n s) (take n (drop n s)) (drop n (drop n s))))

-- Bytes that an image is read from are its body.
pub body_read : (s : List ℕ) (x : Image) → read_body s ≡ Some x → (s ≡ body_of x) × Shaped x
unfolding read_body
body_read [] x e = let z : ◌≡◌ {A = ℕ} 0 1 = cc in absurd (omega arith)
body_read (b ∷ s) x e = by_kind (numbered b) refl
  where
    by_size : (a : Algorithm) → numbered b ≡ Some a → Dec (2 * digest_bytes a ≤ length s) → (b ∷ s ≡ body_of x) × Shaped x
    by_size a q (no h) =
        let f : None ≡ Some x = sym (body_cut a b s q (omega arith)) ∙ e in
        let z : ◌≡◌ {A = ℕ} 0 1 = cc in absurd (omega arith)
    by_size a q (yes h) =
        let n = digest_bytes a in
        let l = drop n s in
        let y : Image = record { ids = image_id a (take n s) (take n l) ∷ []; text = drop (2 * n) s } in
        let f : Some y ≡ Some x = sym (body_whole a b s q h) ∙ e in
        let g : y ≡ x = cc in (
          body_parts a b s q ∙ ap body_of g,
          record {
            algorithm = a;
            signer = take n s;
            manifest = take n l;
            ids = ap (λ (w : Image). w.ids) (sym g);
            signer_size = length-take-le n s (omega arith);
            manifest_size = length-take-le n l (omega (arith, length-drop n s));
          },
        )

    by_kind : (k : Option Algorithm) → numbered b ≡ k → (b ∷ s ≡ body_of x) × Shaped x
    by_kind None q =
        let f : None ≡ Some x = sym (body_unknown b s q) ∙ e in
        let z : ◌≡◌ {A = ℕ} 0 1 = cc in absurd (omega arith)
    by_kind (Some a) q = by_size a q (dec_le (2 * digest_bytes a) (length s))

-- what a number and its rest are, if an image is read from them
record Sized (p : Parsed) (x : Image) (r : List ℕ) : Type 0 where
  size : ℕ
  rest : List ℕ
  read : p ≡ number size rest
  fits : size ≤ length rest
  body : read_body (take size rest) ≡ Some x
  after : drop size rest ≡ r

sized : (p : Parsed) (x : Image) (r : List ℕ) → read_sized p ≡ image x r → Sized p x r
unfolding read_sized before_rest
sized no_number x r e = let z : ◌≡◌ {A = ℕ} 0 1 = cc in absurd (omega arith)
sized (number n t) x r e = by_size (dec_le n (length t))
  where
    by_body : (b : Option Image) → read_body (take n t) ≡ b → n ≤ length t → before_rest b (drop n t) ≡ image x r → Sized (number n t) x r
    by_body None q h f = let z : ◌≡◌ {A = ℕ} 0 1 = cc in absurd (omega arith)
    by_body (Some y) q h f =
        let g : y ≡ x = cc in
        record { size = n; rest = t; read = refl; fits = h; body = q ∙ ap Some g; after = cc }

    by_size : Dec (n ≤ length t) → Sized (number n t) x r
    by_size (no h) =
        let f : no_image ≡ image x r = sym (sized_short n t (omega arith)) ∙ e in
        let z : ◌≡◌ {A = ℕ} 0 1 = cc in absurd (omega arith)
    by_size (yes h) = by_body (read_body (take n t)) refl h (sym (sized_whole n t h) ∙ e)

-- Bytes that begin with a record begin with the one record of its image.
pub record_read : (s : List ℕ) (x : Image) (r : List ℕ) → ((k : ℕ) → get_or s k 0 < 256) → read_record s ≡ image x r → (s ≡ record_of x ++ r) × Shaped x
unfolding read_record record_of
record_read s x r h e =
    let z = sized (read_varint s) x r e in
    let b = body_read (take z.size z.rest) x z.body in
    let n : z.size ≡ length (body_of x) = sym (length-take-le z.size z.rest z.fits) ∙ ap length b.0 in (
      varint_read s z.size z.rest h z.read
          ∙ ap (λ (l : List ℕ). varint z.size ++ l) (sym (take-append-drop z.size z.rest))
          ∙ rw (b.0, z.after, n) (sym (append_assoc (varint (length (body_of x))) (body_of x) r)),
      b.1,
    )

-- A record is at least one byte.
pub record_positive : (x : Image) → 0 < length (record_of x)
unfolding record_of
record_positive x =
    let n = length (body_of x) in omega (arith, length-append (varint n) (body_of x), varint_positive n)

-- The record of a manifest of 16384 bytes at most is at most 100 bytes longer.
pub record_short : (x : Image) → Shaped x → length x.text ≤ 16384 → length (record_of x) ≤ 16484
unfolding record_of
record_short x h l =
    let n = length (body_of x) in
    let m = h.manifest ++ x.text in
    let b : n ≡ 1 + length (h.signer ++ m) = ap (λ (y : Image). length (body_of y)) (shape x h)
    ∙ ap length (parts h.algorithm h.signer h.manifest x.text) ∙ omega arith in
    let small : n ≤ 16481 = omega (
      arith,
      length-append h.signer m,
      length-append h.manifest x.text,
      (digest_bounds h.algorithm).1,
      h.signer_size,
      h.manifest_size,
    ) in
    omega (arith, length-append (varint n) (body_of x), varint_short n (omega arith))
