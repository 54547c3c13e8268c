-- Arrays that are lent keep their lengths, so what was lent once can be lent again. Assumes nothing.
use mathlib.Core.Path.{◌≡◌}
use mathlib.Core.List.{List}
use Prim.Native.Nat.{ℕ, ◌≤◌}
use native.Mathlib.Omega.{arith}
use lib.ListN.{length}
use Rattle.store_conflict.specs.Lent.{ClashSpace}

-- Arrays as long as those that serve serve too.
pub space_kept : {size : ℕ} {sorted spare heads keys : List ℕ} → ClashSpace size sorted spare heads keys → (sorted' spare' heads' keys' : List ℕ)
    → length sorted' ≡ length sorted → length spare' ≡ length spare → length heads' ≡ length heads → length keys' ≡ length keys
    → ClashSpace size sorted' spare' heads' keys'
space_kept c sorted' spare' heads' keys' d e f g =
    record {
      names = record { space = omega (arith, c.names.space); sorting = omega (arith, c.names.sorting) };
      heads_space = omega (arith, c.heads_space);
      keys_space = omega (arith, c.keys_space);
    }

-- Arrays that serve manifests of one size serve shorter ones.
pub space_less : {size less : ℕ} {sorted spare heads keys : List ℕ} → less ≤ size → ClashSpace size sorted spare heads keys
    → ClashSpace less sorted spare heads keys
space_less h c = record { names = c.names; heads_space = c.heads_space; keys_space = omega (arith, h, c.keys_space) }
