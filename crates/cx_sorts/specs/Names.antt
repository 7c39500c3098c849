-- What a name stands for: a struct of the C file, a parameter of the function, a region type of the type file.
use Rattle.std.specs.Prelude.{ℕ, Bool, Option, position}
use Rattle.std.specs.Str.{bytes_eq}
use Rattle.cx_form.specs.declared.tree.Word.{Word}
use Rattle.cx_form.specs.declared.tree.Struct.{Struct}
use Rattle.cx_form.specs.declared.tree.Parameter.{Parameter}
use Rattle.cx_form.specs.declared.tree.CFile.{CFile}
use Rattle.cx_form.specs.declared.tree.Function.{Function}
use Rattle.cx_form.specs.declared.tree.RegionType.{RegionType}
use Rattle.cx_form.specs.declared.tree.TypeFile.{TypeFile}
use Rattle.cx_form.specs.Form.{struct_named}

-- the two words have the same bytes
abbrev pub same_name : Word → Word → Bool
same_name a b = bytes_eq a.text b.text

-- the struct of this tag (C11 6.2.3: tags are a name space of their own)
abbrev pub struct_of : CFile → Word → Option Struct
struct_of c tag = struct_named c.structs tag.text

-- the place of the parameter of this name, the first one's being 0
abbrev pub variable : Function → Word → Option ℕ
variable f name = position (λ (p : Parameter). same_name p.name name) f.parameters

-- the place of the region type of this name, the first one's being 0
abbrev pub place_of : TypeFile → Word → Option ℕ
place_of types name = position (λ (r : RegionType). same_name r.name name) types.regions
