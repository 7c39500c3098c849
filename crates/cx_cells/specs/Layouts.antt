-- The layout of a memory: its regions without their bytes. It is all of the other regions that a type looks at.
use Rattle.std.specs.Prelude.{◌≡◌, ℕ, ℤ, pos, ◌-ℤ◌, List, map, Bool, true, ◌⊎◌, Any, ◌++◌}
use Rattle.cx_base.specs.Memory.{size_of}
use Rattle.cx_base.specs.declared.memory.Region.{Region}

-- a region without its bytes
pub record Extent : Type 0 where
  pub base : ℕ
  pub name : ℕ
  pub args : List ℤ
  pub size : ℕ

abbrev pub extent_of : Region → Extent
extent_of r = record { base = r.base; name = r.name; args = r.args; size = size_of r }

abbrev pub layout_of : List Region → List Extent
layout_of rs = map extent_of rs

-- the region has this type, these arguments and this base
pub record IsAt (name : ℕ) (args : List ℤ) (base : ℤ) (e : Extent) : Type 0 where
  pub named : e.name ≡ name
  pub given : e.args ≡ args
  pub based : pos e.base ≡ base

-- z is the address off bytes past the base of such a region of the layout, or also 0 where null is true
abbrev pub Points : List Extent → ℕ → List ℤ → ℤ → Bool → ℤ → Type 0
Points layout name args off null z = ((null ≡ true) × (z ≡ pos 0)) ⊎ Any (IsAt name args (z -ℤ off)) layout

-- the regions of the first memory stand first in the second, with the same bases, types, arguments and sizes
pub record Extends (before after : List Region) : Type 0 where
  pub more : List Extent
  pub same : layout_of after ≡ layout_of before ++ more
