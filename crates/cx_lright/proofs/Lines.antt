-- What lines do that work on a value which stands in a local.
use Rattle.std.proofs.Common.{ℕ, ℤ, pos, ◌≡◌, ◌+◌, ◌<◌, ◌≤◌, ◌==◌, ◌+ℤ◌, ◌*ℤ◌, Bool, true, false, List, ◌∷◌, length, Some, refl, ap, ◌∙◌, arith}
use Rattle.std.specs.Prelude.{slice_get, slice_set, if◌then◌else◌}
use Rattle.cx_base.specs.declared.number.CInt.{CInt}
use Rattle.cx_base.specs.declared.span.Span.{Span}
use Rattle.cx_cconst.specs.Constants.{converted}
use Rattle.cx_cmean.specs.Expressions.{object_at, further}
use Rattle.cx_cmean.specs.Numbers.{is_same, as_type}
use Rattle.cx_ctree.specs.Conversions.{unsigned_long}
use Rattle.cx_ctree.specs.Types.{TypeTree, void, int, pointer, array, tag}
use Rattle.cx_goto.specs.Machine.{Outcome, follow, put_in}
use Rattle.cx_goto.specs.Operations.{operate}
use Rattle.cx_goto.specs.Trees.{const, conv, bin, load}
use Rattle.cx_goto.specs.declared.code.Op.{Op}
use Rattle.cx_goto.specs.declared.code.Op.TheVariants.{Add, Mul}
use Rattle.cx_lcode.specs.Items.{Item, does, converts}
use Rattle.cx_lcode.specs.Values.{scaled, object_code, further_code}
use Rattle.cx_lright.proofs.Locals.{Kept, kept_refl, kept_trans, kept_set, get-set_same, get-set_other}
use Rattle.cx_lright.proofs.Machine.{Coded, IsLine, HasAt, Ends, line_ends, still_ends}
use Rattle.cx_lcode.specs.Needs.{further_need}
use Rattle.cx_world.specs.Access as access
use Rattle.cx_world.specs.World.{World, gives, go_on, Locals, set_number, local_value, others}

pub const_ends : (c : Coded) (b i t n : ℕ) (s : Span) (ls : Locals) (w : World) (v : ℤ) (o : Outcome) → IsLine c b i (record { instr = const t v; span = s }) → Ends c b (i + 1) (slice_set ls t (Some v)) n w o → Ends c b i ls n w o
const_ends c b i t n s ls w v o h q = still_ends c b i n ls (slice_set ls t (Some v)) w _ o h refl q

-- what goes on where the local t has the number v and all below t is as it was
abbrev pub GoesOn : (c : Coded) (b t n : ℕ) (ls : Locals) (w : World) (rest : List Item) (v : ℤ) (o : Outcome) → Type 0
GoesOn c b t n ls w rest v o = (i' : ℕ) (ls' : Locals) → HasAt c b i' rest → Kept t ls ls' → slice_get ls' t ≡ Some (Some v) → Ends c b i' ls' n w o

-- ---- conversions

converts_if : (c : Coded) (b i t n : ℕ) (s : Span) (to : CInt) (ls : Locals) (w : World) (v : ℤ) (rest : List Item) (o : Outcome) → t < length ls → slice_get ls t ≡ Some (Some v) → (z : Bool)
    → HasAt c b i (if z then rest else does s (conv t to) ∷ rest) → GoesOn c b t n ls w rest (if z then v else converted to v) o → Ends c b i ls n w o
converts_if c b i t n s to ls w v rest o room hv true h next = next i ls h (kept_refl t ls) hv
converts_if c b i t n s to ls w v rest o room hv false h next =
    still_ends c b i n ls (slice_set ls t (Some (converted to v))) w _ o h.0 (ap (λ r. put_in t ls (go_on (set_number s r w) (λ v w. gives (converted to v) w))) hv)
    (next (i + 1) (slice_set ls t (Some (converted to v))) h.1 (kept_set t t ls (Some (converted to v)) (omega arith)) (get-set_same ls t (Some (converted to v)) room))

pub converts_ends : (c : Coded) (b i t n : ℕ) (s : Span) (from to : CInt) (ls : Locals) (w : World) (v : ℤ) (rest : List Item) (o : Outcome) → t < length ls → slice_get ls t ≡ Some (Some v)
    → HasAt c b i (converts s from to t rest) → GoesOn c b t n ls w rest (as_type from to v) o → Ends c b i ls n w o
converts_ends c b i t n s from to ls w v rest o room hv h next = converts_if c b i t n s to ls w v rest o room hv (is_same from to) h next

-- ---- operators

-- an operator on the numbers of two locals, for a third
pub bin_ends : (c : Coded) (b i t x y n : ℕ) (s : Span) (op : Op) (k : CInt) (ls : Locals) (w : World) (v u : ℤ) (rest : List Item) (go : ℤ → World → Outcome) → t < length ls → slice_get ls x ≡ Some (Some v) → slice_get ls y ≡ Some (Some u)
    → HasAt c b i (does s (bin t op k x y) ∷ rest)
    → ((r : ℤ) (w' : World) (ls' : Locals) → HasAt c b (i + 1) rest → Kept t ls ls' → slice_get ls' t ≡ Some (Some r) → Ends c b (i + 1) ls' n w' (go r w'))
    → Ends c b i ls n w (follow (operate s op k v u w) n go)
bin_ends c b i t x y n s op k ls w v u rest go room hv hu h next =
    line_ends c b i n ls w _ (operate s op k v u w) (λ r. slice_set ls t (Some r)) go h.0
    (ap (λ o. put_in t ls (go_on (set_number s o w) (λ v w. go_on (local_value s y ls w) (λ u w. operate s op k v u w)))) hv ∙ ap (λ o. put_in t ls (go_on (set_number s o w) (λ u w. operate s op k v u w))) hu)
    (λ r w'. next r w' (slice_set ls t (Some r)) h.1 (kept_set t t ls (Some r) (omega arith)) (get-set_same ls t (Some r) room))

-- the same where the operator gives a number
pub sure_ends : (c : Coded) (b i t x y n : ℕ) (s : Span) (op : Op) (k : CInt) (ls : Locals) (w : World) (v u r : ℤ) (rest : List Item) (o : Outcome) → t < length ls → slice_get ls x ≡ Some (Some v) → slice_get ls y ≡ Some (Some u)
    → operate s op k v u w ≡ gives r w → HasAt c b i (does s (bin t op k x y) ∷ rest) → GoesOn c b t n ls w rest r o → Ends c b i ls n w o
sure_ends c b i t x y n s op k ls w v u r rest o room hv hu e h next =
    still_ends c b i n ls (slice_set ls t (Some r)) w _ o h.0
    (ap (λ o. put_in t ls (go_on (set_number s o w) (λ v w. go_on (local_value s y ls w) (λ u w. operate s op k v u w)))) hv ∙ ap (λ o. put_in t ls (go_on (set_number s o w) (λ u w. operate s op k v u w))) hu ∙ ap (put_in t ls) e)
    (next (i + 1) (slice_set ls t (Some r)) h.1 (kept_set t t ls (Some r) (omega arith)) (get-set_same ls t (Some r) room))

-- a local and a number that the next local gets
pub with_number : (c : Coded) (b i t n : ℕ) (s : Span) (op : Op) (k : CInt) (ls : Locals) (w : World) (v u r : ℤ) (rest : List Item) (o : Outcome) → t + 1 < length ls → slice_get ls t ≡ Some (Some v)
    → operate s op k v u w ≡ gives r w → HasAt c b i (does s (const (t + 1) u) ∷ does s (bin t op k t (t + 1)) ∷ rest) → GoesOn c b t n ls w rest r o → Ends c b i ls n w o
with_number c b i t n s op k ls w v u r rest o room hv e h next =
    let ls1 = slice_set ls (t + 1) (Some u) in let k1 = kept_set (t + 1) (t + 1) ls (Some u) (omega arith) in let long = k1.long in
    const_ends c b i (t + 1) n s ls w u o h.0
    (sure_ends c b (i + 1) t t (t + 1) n s op k ls1 w v u r rest o (omega (arith, room, long)) (get-set_other ls (t + 1) t (Some u) (omega arith) ∙ hv) (get-set_same ls (t + 1) (Some u) room) e h.1
    (λ i2 ls2 h2 k2 hr. next i2 ls2 h2 (kept_trans t t ls ls1 ls2 (omega arith) (kept_set t (t + 1) ls (Some u) (omega arith)) k2) hr))

-- a number times a size
pub scaled_ends : (c : Coded) (b i t n : ℕ) (s : Span) (size : ℕ) (ls : Locals) (w : World) (v : ℤ) (rest : List Item) (o : Outcome) → t + 1 < length ls → slice_get ls t ≡ Some (Some v)
    → HasAt c b i (scaled s size t rest) → GoesOn c b t n ls w rest (converted unsigned_long (v *ℤ pos size)) o → Ends c b i ls n w o
scaled_ends c b i t n s size ls w v rest o room hv h next = with_number c b i t n s Mul unsigned_long ls w v (pos size) (converted unsigned_long (v *ℤ pos size)) rest o room hv refl h next

-- an address so many bytes further on
further_if : (c : Coded) (b i t n : ℕ) (s : Span) (off : ℕ) (ls : Locals) (w : World) (v : ℤ) (rest : List Item) (o : Outcome) → (z : Bool) → t + (if z then 1 else 2) ≤ length ls → slice_get ls t ≡ Some (Some v)
    → HasAt c b i (if z then rest else does s (const (t + 1) (pos off)) ∷ does s (bin t Add unsigned_long t (t + 1)) ∷ rest)
    → GoesOn c b t n ls w rest (if z then v else converted unsigned_long (v +ℤ pos off)) o → Ends c b i ls n w o
further_if c b i t n s off ls w v rest o true room hv h next = next i ls h (kept_refl t ls) hv
further_if c b i t n s off ls w v rest o false room hv h next =
    with_number c b i t n s Add unsigned_long ls w v (pos off) (converted unsigned_long (v +ℤ pos off)) rest o (omega (arith, room)) hv refl h next

pub further_ends : (c : Coded) (b i t n : ℕ) (s : Span) (off : ℕ) (ls : Locals) (w : World) (v : ℤ) (rest : List Item) (o : Outcome) → t + further_need off ≤ length ls → slice_get ls t ≡ Some (Some v)
    → HasAt c b i (further_code s off t rest) → GoesOn c b t n ls w rest (further off v) o → Ends c b i ls n w o
further_ends c b i t n s off ls w v rest o room hv h next = further_if c b i t n s off ls w v rest o (off == 0) room hv h next

-- ---- objects in memory

load_ends : (c : Coded) (b i t n : ℕ) (s : Span) (k : CInt) (ls : Locals) (w : World) (a : ℤ) (rest : List Item) (go : ℤ → World → Outcome) → t < length ls → slice_get ls t ≡ Some (Some a)
    → HasAt c b i (does s (load t k t) ∷ rest)
    → ((i' : ℕ) (r : ℤ) (w' : World) (ls' : Locals) → HasAt c b i' rest → Kept t ls ls' → slice_get ls' t ≡ Some (Some r) → Ends c b i' ls' n w' (go r w'))
    → Ends c b i ls n w (follow (access.load c.program.oracle s k a w) n go)
load_ends c b i t n s k ls w a rest go room ha h next =
    line_ends c b i n ls w _ (access.load c.program.oracle s k a w) (λ r. slice_set ls t (Some r)) go h.0
    (ap (λ o. put_in t ls (go_on (others c.program.oracle w) (λ u w. go_on (set_number s o w) (λ a w. access.load_now s k a w)))) ha)
    (λ r w'. next (i + 1) r w' (slice_set ls t (Some r)) h.1 (kept_set t t ls (Some r) (omega arith)) (get-set_same ls t (Some r) room))

-- what stands at the address in a local
pub object_ends : (c : Coded) (b i t n : ℕ) (s : Span) (v : TypeTree) (ls : Locals) (w : World) (a : ℤ) (rest : List Item) (go : ℤ → World → Outcome) → t < length ls → slice_get ls t ≡ Some (Some a)
    → HasAt c b i (object_code s v t rest)
    → ((i' : ℕ) (r : ℤ) (w' : World) (ls' : Locals) → HasAt c b i' rest → Kept t ls ls' → slice_get ls' t ≡ Some (Some r) → Ends c b i' ls' n w' (go r w'))
    → Ends c b i ls n w (follow (object_at c.program s v a w) n go)
object_ends c b i t n s void ls w a rest go room ha h next = next i a w ls h (kept_refl t ls) ha
object_ends c b i t n s (int v) ls w a rest go room ha h next = load_ends c b i t n s v ls w a rest go room ha h next
object_ends c b i t n s (pointer v) ls w a rest go room ha h next = load_ends c b i t n s unsigned_long ls w a rest go room ha h next
object_ends c b i t n s (array v k) ls w a rest go room ha h next = next i a w ls h (kept_refl t ls) ha
object_ends c b i t n s (tag v) ls w a rest go room ha h next = next i a w ls h (kept_refl t ls) ha
