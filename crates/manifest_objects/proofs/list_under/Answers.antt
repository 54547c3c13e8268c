-- The strings are collected, and the number of their object is written for each. Assumes nothing.
use Prim.Native.Nat.{ℕ, ◌-◌, ◌≤◌}
use mathlib.Core.Path.{◌≡◌, sym, ap, ◌∙◌}
use mathlib.Core.List.{List, ◌++◌, append_assoc}
use native.Mathlib.Omega.{arith}
use borrow.Rule.Slice.PartMut.{mid_len, put_mid, post_of}
use lib.ListN.{length, take, replicate, length-append, length-replicate}
use lib.Seq.{take_at, length-take-le}
use Rattle.manifest_objects.proofs.Listing.{adds_listed}
use Rattle.manifest_objects.proofs.list_under.Goals as goal

pub returns : goal.returns
returns c =
    let r = c.collect_entries-added.result.count in
    let n = c.args.n in
    let o = c.args.owners.now in
    let e = (c.collect_entries-added.ensures.adds_names c.requires.list.values c.requires.list.here).0 in
    let h : r ≤ length o = omega (arith, e, c.requires.space) in
    let m : n ≤ length o = omega (arith, e, c.requires.space) in
    let w : c.fill.new.self ≡ replicate (r - n) c.args.object
    = c.fill.ensures.after (λ y q. q) ∙ ap (λ (k : ℕ). replicate k c.args.object) (mid_len n r o h) in
    let s : length (take n o ++ replicate (r - n) c.args.object) ≡ r
    = length-append (take n o) (replicate (r - n) c.args.object)
    ∙ omega (arith, length-take-le n o m, length-replicate (r - n) c.args.object, e) in
    adds_listed _ _ _ _ _ _ _ c.requires _ _ _ c.collect_entries-added.ensures.adds_names
    (ap (λ (x : List ℕ). take r (put_mid n (r - n) o x)) w
    ∙ ap (take r) (sym (append_assoc (take n o) (replicate (r - n) c.args.object) (post_of n (r - n) o)))
    ∙ take_at (take n o ++ replicate (r - n) c.args.object) (post_of n (r - n) o) r s)
