-- The first cell among those of its symbol is the known cell.
use Rattle.std.specs.Prelude.{◌≡◌, ℕ, zero, suc, ◌+◌, ◌==◌, ◌&&◌, Bool, true, false, List, [], ◌∷◌, drop, slice_get, Some}
use Rattle.std.specs.List.{position_from}
use Rattle.std.proofs.Common.{arith, refl, sym, ap, ◌∙◌, cond}
use Rattle.std.proofs.lemmas.Iterator.Adapters.{position_from-zero}
use Rattle.cx_term.specs.Forms.{Linear}
use Rattle.cx_entail.specs.Shows.{same_form}
use Rattle.cx_state.specs.Known.{is_cell_at, known_in}
use Rattle.cx_state.specs.declared.state.Cell.{Cell}
use Rattle.cx_packed.specs.Index.{places_from, places_of, first_at}

get_drop : (cells : List Cell) (k : ℕ) (c : Cell) (cs : List Cell) → drop k cells ≡ c ∷ cs → slice_get cells k ≡ Some c
get_drop [] zero c cs e = absurd (cc)
get_drop [] (suc k) c cs e = absurd (cc)
get_drop (x ∷ xs) zero c cs e = let f : x ≡ c = cc in ap Some f
get_drop (x ∷ xs) (suc k) c cs e = get_drop xs k c cs e

drop_more : (cells : List Cell) (k : ℕ) (c : Cell) (cs : List Cell) → drop k cells ≡ c ∷ cs → drop (suc k) cells ≡ cs
drop_more [] zero c cs e = absurd (cc)
drop_more [] (suc k) c cs e = absurd (cc)
drop_more (x ∷ xs) zero c cs e = cc
drop_more (x ∷ xs) (suc k) c cs e = drop_more xs k c cs e

step_by : (cells : List Cell) (at : Linear) (size s k : ℕ) (c : Cell) (cs : List Cell) (b : Bool) → (c.sym == s) ≡ b → slice_get cells k ≡ Some c → first_at cells at size (places_from (suc k) cs s) ≡ position_from (is_cell_at s at size) (k + 1) cs → first_at cells at size (cond b (k ∷ places_from (suc k) cs s) (places_from (suc k) cs s)) ≡ cond (b && ((c.size == size) && same_form c.at at)) (Some k) (position_from (is_cell_at s at size) (k + 1) cs)
step_by cells at size s k c cs true e g h = rw (g, h) refl
step_by cells at size s k c cs false e g h = h

first_from : (cells : List Cell) (at : Linear) (size s k : ℕ) (cs : List Cell) → drop k cells ≡ cs → first_at cells at size (places_from k cs s) ≡ position_from (is_cell_at s at size) k cs
first_from cells at size s k [] e = refl
first_from cells at size s k (c ∷ cs) e =
    let n : k + 1 ≡ suc k = omega arith in
    let h : first_at cells at size (places_from (suc k) cs s) ≡ position_from (is_cell_at s at size) (k + 1) cs = rw n (first_from cells at size s (suc k) cs (drop_more cells k c cs e)) in
    step_by cells at size s k c cs (c.sym == s) refl (get_drop cells k c cs e) h

pub first-known : (cells : List Cell) (s : ℕ) (at : Linear) (size : ℕ) → first_at cells at size (places_of cells s) ≡ known_in cells s at size
first-known cells s at size = first_from cells at size s 0 cells refl ∙ sym (position_from-zero (is_cell_at s at size) cells)
