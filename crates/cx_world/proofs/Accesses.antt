-- An access that is done lies inside a region of the memory, and is listed.
use Rattle.std.proofs.Common.{◌≡◌, ◌+◌, ℕ, true, List, Option, Some, None, refl, sym, subst, nat_le, position, slice_get}
use Rattle.std.specs.Prelude.{ℤ, pos, negsuc, slice_set}
use Rattle.std.proofs.lemmas.Bool.{leb-true}
use Rattle.std.proofs.lemmas.List.Quantifiers.{position-Some}
use Rattle.std.proofs.lemmas.Option.{get_or_from_slice_get}
use Rattle.cx_base.specs.Memory.{Holds, size_of, stored}
use Rattle.cx_base.specs.declared.memory.Region.{Region}
use Rattle.cx_base.specs.declared.number.CInt.{CInt}
use Rattle.cx_base.specs.declared.span.Span.{Span}
use Rattle.cx_base.proofs.General.{both_true}
use Rattle.cx_world.specs.Access.{lies_in, Found, with_place, found_at, found, offset_in, access, fetched, put}
use Rattle.cx_world.specs.Laws.{Inside, ReadsLieInside, WritesLieInside}
use Rattle.cx_world.specs.World.{World, gives, logged, reads, writes}

lies : (a size : ℕ) (r : Region) → lies_in a size r ≡ true → Holds r a size
lies a size r h = let b = both_true (nat_le r.base a) (nat_le (a + size) (r.base + size_of r)) h in record { from = leb-true r.base a b.0; to = leb-true (a + size) (r.base + size_of r) b.1 }

inside_in : (rs : List Region) (a size i : ℕ) (x : Option Region) → slice_get rs i ≡ x → position (lies_in a size) rs ≡ Some i → (f : Found) → with_place i x ≡ Some f → Inside rs (pos a) size
inside_in rs a size i None s e f h = absurd (cc h)
inside_in rs a size i (Some r) s e f h = record {
  place = i;
  region = r;
  there = s;
  address = a;
  is_address = refl;
  holds = lies a size r (subst (λ q. lies_in a size q ≡ true) (get_or_from_slice_get rs i r r s) (position-Some (lies_in a size) rs i r e).1);
}

inside_at : (rs : List Region) (a size : ℕ) (o : Option ℕ) → position (lies_in a size) rs ≡ o → (f : Found) → found_at rs o ≡ Some f → Inside rs (pos a) size
inside_at rs a size None e f h = absurd (cc h)
inside_at rs a size (Some i) e f h = inside_in rs a size i (slice_get rs i) refl e f h

inside : (rs : List Region) (a : ℤ) (size : ℕ) (f : Found) → found rs a size ≡ Some f → Inside rs a size
inside rs (pos a) size f h = inside_at rs a size (position (lies_in a size) rs) refl f h
inside rs (negsuc a) size f h = absurd (cc h)

reads_at : (s : Span) (t : CInt) (a : ℤ) (w : World) (x : Option Found) → found w.memory a t.size ≡ x → (v : ℤ) (after : World) → fetched s t a x w ≡ gives v after
    → Inside w.memory a t.size × (after ≡ logged (reads (access s a t w)) w)
reads_at s t a w None e v after h = absurd (cc h)
reads_at s t a w (Some f) e v after h = (inside w.memory a t.size f e, sym (cc h))

pub reads_lie_inside : ReadsLieInside
reads_lie_inside s t a w v after h = reads_at s t a w (found w.memory a t.size) refl v after h

writes_at : (s : Span) (t : CInt) (a v : ℤ) (w : World) (x : Option Found) → found w.memory a t.size ≡ x → (u : Unit {0}) (after : World) → put s t a v x w ≡ gives u after
    → Inside w.memory a t.size × (rs : List Region) × (after ≡ logged (writes (access s a t (record w { memory = rs }))) (record w { memory = rs }))
writes_at s t a v w None e u after h = absurd (cc h)
writes_at s t a v w (Some f) e u after h = (inside w.memory a t.size f e, slice_set w.memory f.place (stored f.region (offset_in f.region a) t.size v), sym (cc h))

pub writes_lie_inside : WritesLieInside
writes_lie_inside s t a v w u after h = writes_at s t a v w (found w.memory a t.size) refl u after h
