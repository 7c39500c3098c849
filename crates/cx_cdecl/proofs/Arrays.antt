-- Arrays of sizes, of which the first is the outermost.
use Rattle.std.proofs.Common.{◌≡◌, ℕ, zero, suc, ◌-◌, ◌<◌, ◌≤◌, List, [], ◌∷◌, ◌++◌, length, take, get_or, refl, ap, ◌∙◌, sym, arith}
use Rattle.std.proofs.Math.Seq.{take-suc}
use Rattle.cx_ctree.specs.Types.{TypeTree, array}
use Rattle.cx_cdecl.specs.Reading.{arrays}

arrays_last : (t : TypeTree) (ns : List ℕ) (n : ℕ) → arrays t (ns ++ n ∷ []) ≡ arrays (array t n) ns
arrays_last t [] n = refl
arrays_last t (m ∷ ns) n = ap (λ w. array w m) (arrays_last t ns n)

pub arrays_next : (t : TypeTree) (ns : List ℕ) (k : ℕ) → 0 < k → k ≤ length ns → arrays (array t (get_or ns (k - 1) 0)) (take (k - 1) ns) ≡ arrays t (take k ns)
arrays_next t ns zero h le = absurd (omega arith)
arrays_next t ns (suc k) h le =
    let e : suc k - 1 ≡ k = omega arith in
    let lt : k < length ns = omega arith in
    rw e (sym (arrays_last t (take k ns) (get_or ns k 0)) ∙ ap (arrays t) (sym (take-suc ns k 0 lt)))
