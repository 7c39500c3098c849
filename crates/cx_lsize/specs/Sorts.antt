-- The sorts of operators as plain data.
use Rattle.cx_lcode.specs.Places as spec
use Rattle.cx_lsize.specs.declared.sort.Sort.{Sort}
use Rattle.cx_lsize.specs.declared.sort.Sort.TheVariants.{Both, Either, Comparing, Computing}

abbrev pub sort_tree : Sort → spec.Sort
sort_tree Both = spec.both
sort_tree Either = spec.either
sort_tree Comparing = spec.comparing
sort_tree Computing = spec.computing
