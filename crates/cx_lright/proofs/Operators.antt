-- The code of operators does what the operators do.
use Rattle.std.proofs.Common.{ℕ, ℤ, pos, ◌≡◌, ◌+◌, ◌<◌, ◌≤◌, ◌-ℤ◌, ◌*ℤ◌, true, List, ◌∷◌, length, Some, refl, sym, ap, ◌∙◌, arith}
use Rattle.std.specs.Prelude as prelude
use Rattle.std.specs.Prelude.{slice_get}
use Rattle.cx_base.specs.declared.number.CInt.{CInt}
use Rattle.cx_base.specs.declared.span.Span.{Span}
use Rattle.cx_cconst.specs.Constants.{converted}
use Rattle.cx_cmean.specs.Numbers.{as_type, applied_in, right_in, moved, moved_back, operate}
use Rattle.cx_cmean.specs.Program.{unit_in}
use Rattle.cx_ctree.specs.Conversions.{unsigned_long, signed_long}
use Rattle.cx_ctree.specs.Types.{TypeTree, void, int, pointer, array, tag}
use Rattle.cx_ctree.specs.declared.expr.Binary.{Binary}
use Rattle.cx_ctree.specs.declared.expr.Binary.TheVariants as ops
use Rattle.cx_goto.specs.Machine.{Outcome, follow}
use Rattle.cx_goto.specs.Operations as code
use Rattle.cx_goto.specs.Trees as trees
use Rattle.cx_goto.specs.declared.code.Op.TheVariants.{Add, Sub, Div}
use Rattle.cx_lcode.specs.Items as items
use Rattle.cx_lcode.specs.Items.{Item}
use Rattle.cx_lcode.specs.Needs.{operation_need}
use Rattle.cx_lcode.specs.Places.{Last, computing, sort_of}
use Rattle.cx_lcode.specs.Values as values
use Rattle.cx_lcode.specs.Values.{Code, op_of, operation}
use Rattle.cx_lright.proofs.Does.{DoesVal, two_values, two_numbers}
use Rattle.cx_lright.proofs.Lines as lines
use Rattle.cx_lright.proofs.Lines.{converts_ends, bin_ends, sure_ends, scaled_ends}
use Rattle.cx_lright.proofs.Locals as locals
use Rattle.cx_lright.proofs.Locals.{Kept, kept_trans, matches_kept}
use Rattle.cx_lright.proofs.Machine.{Coded, HasAt, Ends, ends_as, ends_on}
use Rattle.cx_lright.proofs.Sums.{sum_right, sum_left, difference_right}
use Rattle.cx_lright.specs.Fine.{adds, subtracts, moves, takes}
use Rattle.cx_sname.specs.File.{Declared}
use Rattle.cx_world.specs.World.{World, Did, gives, go_on, Locals}

-- an operator on two integers is the operator of the code on the converted numbers
pub computed_is : (d : Declared) (s : Span) (op : Binary) (t u : CInt) (x y : ℤ) (w : World) → sort_of op ≡ computing
    → operate d s op (int t) (int u) x y w ≡ code.operate s (op_of op) (applied_in op t u) (as_type t (applied_in op t u) x) (as_type u (right_in op t u) y) w
computed_is d s ops.Mul t u x y w e = refl
computed_is d s ops.Div t u x y w e = refl
computed_is d s ops.Rem t u x y w e = refl
computed_is d s ops.Add t u x y w e = refl
computed_is d s ops.Sub t u x y w e = refl
computed_is d s ops.Shl t u x y w e = refl
computed_is d s ops.Shr t u x y w e = refl
computed_is d s ops.Lt t u x y w e = absurd (cc e)
computed_is d s ops.Gt t u x y w e = absurd (cc e)
computed_is d s ops.Le t u x y w e = absurd (cc e)
computed_is d s ops.Ge t u x y w e = absurd (cc e)
computed_is d s ops.Eq t u x y w e = absurd (cc e)
computed_is d s ops.Ne t u x y w e = absurd (cc e)
computed_is d s ops.BitAnd t u x y w e = refl
computed_is d s ops.BitXor t u x y w e = refl
computed_is d s ops.BitOr t u x y w e = refl
computed_is d s ops.And t u x y w e = absurd (cc e)
computed_is d s ops.Or t u x y w e = absurd (cc e)

-- what holds of + and - holds of the operators that move pointers
pub by_moves : (P : Binary → Type 0) → P ops.Add → P ops.Sub → (op : Binary) → moves op ≡ true → P op
by_moves P padd psub ops.Mul e = absurd (cc e)
by_moves P padd psub ops.Div e = absurd (cc e)
by_moves P padd psub ops.Rem e = absurd (cc e)
by_moves P padd psub ops.Add e = padd
by_moves P padd psub ops.Sub e = psub
by_moves P padd psub ops.Shl e = absurd (cc e)
by_moves P padd psub ops.Shr e = absurd (cc e)
by_moves P padd psub ops.Lt e = absurd (cc e)
by_moves P padd psub ops.Gt e = absurd (cc e)
by_moves P padd psub ops.Le e = absurd (cc e)
by_moves P padd psub ops.Ge e = absurd (cc e)
by_moves P padd psub ops.Eq e = absurd (cc e)
by_moves P padd psub ops.Ne e = absurd (cc e)
by_moves P padd psub ops.BitAnd e = absurd (cc e)
by_moves P padd psub ops.BitXor e = absurd (cc e)
by_moves P padd psub ops.BitOr e = absurd (cc e)
by_moves P padd psub ops.And e = absurd (cc e)
by_moves P padd psub ops.Or e = absurd (cc e)

-- of + alone
by_adds : (P : Binary → Type 0) → P ops.Add → (op : Binary) → adds op ≡ true → P op
by_adds P padd ops.Mul e = absurd (cc e)
by_adds P padd ops.Div e = absurd (cc e)
by_adds P padd ops.Rem e = absurd (cc e)
by_adds P padd ops.Add e = padd
by_adds P padd ops.Sub e = absurd (cc e)
by_adds P padd ops.Shl e = absurd (cc e)
by_adds P padd ops.Shr e = absurd (cc e)
by_adds P padd ops.Lt e = absurd (cc e)
by_adds P padd ops.Gt e = absurd (cc e)
by_adds P padd ops.Le e = absurd (cc e)
by_adds P padd ops.Ge e = absurd (cc e)
by_adds P padd ops.Eq e = absurd (cc e)
by_adds P padd ops.Ne e = absurd (cc e)
by_adds P padd ops.BitAnd e = absurd (cc e)
by_adds P padd ops.BitXor e = absurd (cc e)
by_adds P padd ops.BitOr e = absurd (cc e)
by_adds P padd ops.And e = absurd (cc e)
by_adds P padd ops.Or e = absurd (cc e)

-- of - alone
by_subtracts : (P : Binary → Type 0) → P ops.Sub → (op : Binary) → subtracts op ≡ true → P op
by_subtracts P psub ops.Mul e = absurd (cc e)
by_subtracts P psub ops.Div e = absurd (cc e)
by_subtracts P psub ops.Rem e = absurd (cc e)
by_subtracts P psub ops.Add e = absurd (cc e)
by_subtracts P psub ops.Sub e = psub
by_subtracts P psub ops.Shl e = absurd (cc e)
by_subtracts P psub ops.Shr e = absurd (cc e)
by_subtracts P psub ops.Lt e = absurd (cc e)
by_subtracts P psub ops.Gt e = absurd (cc e)
by_subtracts P psub ops.Le e = absurd (cc e)
by_subtracts P psub ops.Ge e = absurd (cc e)
by_subtracts P psub ops.Eq e = absurd (cc e)
by_subtracts P psub ops.Ne e = absurd (cc e)
by_subtracts P psub ops.BitAnd e = absurd (cc e)
by_subtracts P psub ops.BitXor e = absurd (cc e)
by_subtracts P psub ops.BitOr e = absurd (cc e)
by_subtracts P psub ops.And e = absurd (cc e)
by_subtracts P psub ops.Or e = absurd (cc e)

-- what goes on where an operator gave its value
abbrev After : (c : Coded) (b t n : ℕ) (ls : Locals) (rest : List Item) (go : ℤ → World → Outcome) → Type 0
After c b t n ls rest go = (i' : ℕ) (v : ℤ) (w' : World) (ls' : Locals) → HasAt c b i' rest → Kept t ls ls' → slice_get ls' t ≡ Some (Some v) → Ends c b i' ls' n w' (go v w')

lowered : (t : ℕ) (ls ms : Locals) → Kept (t + 1) ls ms → Kept t ls ms
lowered t ls ms k = record { same = λ x h. k.same x (omega arith); long = k.long }

-- a pointer that is moved by the number in the next local
moved_ends : (c : Coded) (b i t n : ℕ) (s : Span) (op : Binary) (size : ℕ) (ls : Locals) (w : World) (v u : ℤ) (rest : List Item) (o : Outcome) → t + 2 < length ls → slice_get ls t ≡ Some (Some v) → slice_get ls (t + 1) ≡ Some (Some u)
    → (r : ℤ) → code.operate s (op_of op) unsigned_long v (converted unsigned_long (u *ℤ pos size)) w ≡ gives r w
    → HasAt c b i (values.scaled s size (t + 1) (items.does s (trees.bin t (op_of op) unsigned_long t (t + 1)) ∷ rest))
    → ((i' : ℕ) (ls' : Locals) → HasAt c b i' rest → Kept t ls ls' → slice_get ls' t ≡ Some (Some r) → Ends c b i' ls' n w o) → Ends c b i ls n w o
moved_ends c b i t n s op size ls w v u rest o room hv hu r e h next =
    scaled_ends c b i (t + 1) n s size ls w u (items.does s (trees.bin t (op_of op) unsigned_long t (t + 1)) ∷ rest) o (omega (arith, room)) hu h
    (λ i1 ls1 h1 k1 hu1. let long = k1.long in
    sure_ends c b i1 t t (t + 1) n s (op_of op) unsigned_long ls1 w v (converted unsigned_long (u *ℤ pos size)) r rest o (omega (arith, room, long)) (k1.same t (omega arith) ∙ hv) hu1 e h1
    (λ i2 ls2 h2 k2 hr. next i2 ls2 h2 (kept_trans t t ls ls1 ls2 (omega arith) (lowered t ls ls1 k1) k2) hr))

pub operation_does : (c : Coded) (L : ℕ) (xs : Locals) (s : Span) (op : Binary) (x y : Code) (sx sy : Span) (lx : Last) (fy : ℕ → ℕ) (nx ny : ℕ) (ex ey : World → Did ℤ) → 1 ≤ nx → 1 ≤ ny
    → DoesVal c L nx xs lx.val x.val ex → DoesVal c L ny xs fy y.val ey → sort_of op ≡ computing → (v w : TypeTree) → takes op v w ≡ true
    → DoesVal c L (operation_need v w nx ny) xs (λ b. fy (lx.val b)) (operation c.program.unit s op v w x y sx sy lx)
    (λ z. go_on (ex z) (λ a z. go_on (ey z) (λ b z. operate c.program.unit s op v w a b z)))
operation_does c L xs s op x y sx sy lx fy nx ny ex ey onex oney dx dy e (int v) (int w) k = λ b i t n ls z rest go lo room m h next.
    let applied = applied_in op v w in
    two_numbers c L nx ny xs lx.val fy x.val y.val ex ey sx sy v applied w (right_in op v w) onex oney dx dy (λ a b z. operate c.program.unit s op (int v) (int w) a b z) b i t n ls z (items.does s (trees.bin t (op_of op) applied t (t + 1)) ∷ rest) go lo room m h
    (λ i' a u z' ls' h' k' ha hu. let long = k'.long in
    ends_as c (fy (lx.val b)) i' n ls' z' _ _ (ap (λ r. follow r n go) (sym (computed_is c.program.unit s op v w a u z' e)))
    (bin_ends c (fy (lx.val b)) i' t t (t + 1) n s (op_of op) applied ls' z' _ _ rest go (omega (arith, room, long, onex)) ha hu h'
    (λ r z2 ls2 h2 k2 hr. next (i' + 1) r z2 ls2 h2 (kept_trans t t ls ls' ls2 (omega arith) k' k2) hr)))
operation_does c L xs s op x y sx sy lx fy nx ny ex ey onex oney dx dy e (pointer v) (int w) k =
    by_moves (λ op. DoesVal c L (operation_need (pointer v) (int w) nx ny) xs (λ b. fy (lx.val b)) (operation c.program.unit s op (pointer v) (int w) x y sx sy lx) (λ z. go_on (ex z) (λ a z. go_on (ey z) (λ b z. operate c.program.unit s op (pointer v) (int w) a b z))))
    (λ b i t n ls z rest go lo room m h next.
    two_numbers c L nx ny xs lx.val fy x.val y.val ex ey sx sy unsigned_long unsigned_long w unsigned_long onex oney dx dy (λ a u z. operate c.program.unit s ops.Add (pointer v) (int w) a u z) b i t n ls z (values.scaled s (unit_in c.program.unit v) (t + 1) (items.does s (trees.bin t Add unsigned_long t (t + 1)) ∷ rest)) go lo (omega (arith, room)) m h
    (λ i' a u z' ls' h' k' ha hu. let long = k'.long in
    moved_ends c (fy (lx.val b)) i' t n s ops.Add (unit_in c.program.unit v) ls' z' a (as_type w unsigned_long u) rest _ (omega (arith, room, long)) ha hu
    (moved a (as_type w unsigned_long u) (unit_in c.program.unit v)) (ap (λ r. gives r z') (sum_right a (as_type w unsigned_long u *ℤ pos (unit_in c.program.unit v)))) h'
    (λ i2 ls2 h2 k2 hr. next i2 _ z' ls2 h2 (kept_trans t t ls ls' ls2 (omega arith) k' k2) hr)))
    (λ b i t n ls z rest go lo room m h next.
    two_numbers c L nx ny xs lx.val fy x.val y.val ex ey sx sy unsigned_long unsigned_long w unsigned_long onex oney dx dy (λ a u z. operate c.program.unit s ops.Sub (pointer v) (int w) a u z) b i t n ls z (values.scaled s (unit_in c.program.unit v) (t + 1) (items.does s (trees.bin t Sub unsigned_long t (t + 1)) ∷ rest)) go lo (omega (arith, room)) m h
    (λ i' a u z' ls' h' k' ha hu. let long = k'.long in
    moved_ends c (fy (lx.val b)) i' t n s ops.Sub (unit_in c.program.unit v) ls' z' a (as_type w unsigned_long u) rest _ (omega (arith, room, long)) ha hu
    (moved_back a (as_type w unsigned_long u) (unit_in c.program.unit v)) (ap (λ r. gives r z') (difference_right a (as_type w unsigned_long u *ℤ pos (unit_in c.program.unit v)))) h'
    (λ i2 ls2 h2 k2 hr. next i2 _ z' ls2 h2 (kept_trans t t ls ls' ls2 (omega arith) k' k2) hr)))
    op k
operation_does c L xs s op x y sx sy lx fy nx ny ex ey onex oney dx dy e (int v) (pointer w) k =
    by_adds (λ op. DoesVal c L (operation_need (int v) (pointer w) nx ny) xs (λ b. fy (lx.val b)) (operation c.program.unit s op (int v) (pointer w) x y sx sy lx) (λ z. go_on (ex z) (λ a z. go_on (ey z) (λ b z. operate c.program.unit s op (int v) (pointer w) a b z))))
    (λ b i t n ls z rest go lo room m h next. let size = unit_in c.program.unit w in
    ends_on c b i n ls z (ex z) (λ a z. go_on (ey z) (λ u z. operate c.program.unit s ops.Add (int v) (pointer w) a u z)) go
    (dx b i t n ls z (items.converts sx v unsigned_long t (values.scaled s size t (y.val (lx.val b) (t + 1) (items.does s (trees.bin t Add unsigned_long t (t + 1)) ∷ rest)))) (λ a z. follow (go_on (ey z) (λ u z. operate c.program.unit s ops.Add (int v) (pointer w) a u z)) n go) lo (omega (arith, room)) m h
    (λ i1 a z1 ls1 h1 k1 ha. let long1 = k1.long in
    converts_ends c (lx.val b) i1 t n sx v unsigned_long ls1 z1 a (values.scaled s size t (y.val (lx.val b) (t + 1) (items.does s (trees.bin t Add unsigned_long t (t + 1)) ∷ rest))) _ (omega (arith, room, long1, onex)) ha h1
    (λ i2 ls2 h2 k2 ha2. let long2 = k2.long in
    scaled_ends c (lx.val b) i2 t n s size ls2 z1 (as_type v unsigned_long a) (y.val (lx.val b) (t + 1) (items.does s (trees.bin t Add unsigned_long t (t + 1)) ∷ rest)) _ (omega (arith, room, long1, long2, oney)) ha2 h2
    (λ i3 ls3 h3 k3 ha3. let long3 = k3.long in let k13 = kept_trans t t ls ls1 ls3 (omega arith) k1 (kept_trans t t ls1 ls2 ls3 (omega arith) k2 k3) in
    ends_on c (lx.val b) i3 n ls3 z1 (ey z1) (λ u z. operate c.program.unit s ops.Add (int v) (pointer w) a u z) go
    (dy (lx.val b) i3 (t + 1) n ls3 z1 (items.does s (trees.bin t Add unsigned_long t (t + 1)) ∷ rest) (λ u z. follow (operate c.program.unit s ops.Add (int v) (pointer w) a u z) n go) (omega (arith, lo)) (omega (arith, room, long1, long2, long3)) (matches_kept L t xs ls ls3 lo m k13) h3
    (λ i4 u z4 ls4 h4 k4 hu. let long4 = k4.long in
    sure_ends c (fy (lx.val b)) i4 t t (t + 1) n s Add unsigned_long ls4 z4 (converted unsigned_long (as_type v unsigned_long a *ℤ pos size)) u (moved u (as_type v unsigned_long a) size) rest _
    (omega (arith, room, long1, long2, long3, long4, onex)) (k4.same t (omega arith) ∙ ha3) hu (ap (λ r. gives r z4) (sum_left u (as_type v unsigned_long a *ℤ pos size))) h4
    (λ i5 ls5 h5 k5 hr. next i5 _ z4 ls5 h5 (kept_trans t t ls ls4 ls5 (omega arith) (kept_trans t t ls ls3 ls4 (omega arith) k13 (lowered t ls3 ls4 k4)) k5) hr))))))))
    op k
operation_does c L xs s op x y sx sy lx fy nx ny ex ey onex oney dx dy e (pointer v) (pointer w) k =
    by_subtracts (λ op. DoesVal c L (operation_need (pointer v) (pointer w) nx ny) xs (λ b. fy (lx.val b)) (operation c.program.unit s op (pointer v) (pointer w) x y sx sy lx) (λ z. go_on (ex z) (λ a z. go_on (ey z) (λ b z. operate c.program.unit s op (pointer v) (pointer w) a b z))))
    (λ b i t n ls z rest go lo room m h next. let size = unit_in c.program.unit v in
    two_values c L nx ny xs lx.val fy x.val y.val ex ey dx dy (λ a u z. operate c.program.unit s ops.Sub (pointer v) (pointer w) a u z) b i t n ls z (items.does s (trees.bin t Sub signed_long t (t + 1)) ∷ items.does s (trees.const (t + 1) (pos size)) ∷ items.does s (trees.bin t Div signed_long t (t + 1)) ∷ rest) go lo room m h
    (λ i' a u z' ls' h' k' ha hu. let long = k'.long in
    sure_ends c (fy (lx.val b)) i' t t (t + 1) n s Sub signed_long ls' z' a u (converted signed_long (a -ℤ u)) (items.does s (trees.const (t + 1) (pos size)) ∷ items.does s (trees.bin t Div signed_long t (t + 1)) ∷ rest) _ (omega (arith, room, long, onex)) ha hu refl h'
    (λ i2 ls2 h2 k2 hr. let long2 = k2.long in
    lines.const_ends c (fy (lx.val b)) i2 (t + 1) n s ls2 z' (pos size) _ h2.0
    (bin_ends c (fy (lx.val b)) (i2 + 1) t t (t + 1) n s Div signed_long (prelude.slice_set ls2 (t + 1) (Some (pos size))) z' (converted signed_long (a -ℤ u)) (pos size) rest go
    (let l3 = (locals.kept_set (t + 1) (t + 1) ls2 (Some (pos size)) (omega arith)).long in omega (arith, room, long, long2, l3, onex))
    (locals.get-set_other ls2 (t + 1) t (Some (pos size)) (omega arith) ∙ hr) (locals.get-set_same ls2 (t + 1) (Some (pos size)) (omega (arith, room, long, long2, oney))) h2.1
    (λ r z3 ls3 h3 k3 hr3. next (i2 + 1 + 1) r z3 ls3 h3
    (kept_trans t t ls ls' ls3 (omega arith) k' (kept_trans t t ls' ls2 ls3 (omega arith) k2 (kept_trans t t ls2 _ ls3 (omega arith) (locals.kept_set t (t + 1) ls2 (Some (pos size)) (omega arith)) k3))) hr3)))))
    op k
operation_does c L xs s op x y sx sy lx fy nx ny ex ey onex oney dx dy e void w k = absurd (cc k)
operation_does c L xs s op x y sx sy lx fy nx ny ex ey onex oney dx dy e (array v j) w k = absurd (cc k)
operation_does c L xs s op x y sx sy lx fy nx ny ex ey onex oney dx dy e (tag v) w k = absurd (cc k)
operation_does c L xs s op x y sx sy lx fy nx ny ex ey onex oney dx dy e (int v) void k = absurd (cc k)
operation_does c L xs s op x y sx sy lx fy nx ny ex ey onex oney dx dy e (int v) (array w j) k = absurd (cc k)
operation_does c L xs s op x y sx sy lx fy nx ny ex ey onex oney dx dy e (int v) (tag w) k = absurd (cc k)
operation_does c L xs s op x y sx sy lx fy nx ny ex ey onex oney dx dy e (pointer v) void k = absurd (cc k)
operation_does c L xs s op x y sx sy lx fy nx ny ex ey onex oney dx dy e (pointer v) (array w j) k = absurd (cc k)
operation_does c L xs s op x y sx sy lx fy nx ny ex ey onex oney dx dy e (pointer v) (tag w) k = absurd (cc k)
