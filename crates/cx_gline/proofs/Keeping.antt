-- Items each of whose lines and ends keeps what is asked of it.
use Rattle.std.proofs.Common.{ℕ, ℤ, pos, ◌≡◌, ◌<◌, Bool, true, false, List, [], ◌∷◌, ◌++◌, length, is_some}
use Rattle.std.specs.Prelude.{All, if◌then◌else◌}
use Rattle.std.proofs.lemmas.List.Elements.{All-nil, All-cons, All-head, All-tail}
use Rattle.cx_base.specs.declared.number.CInt.{CInt}
use Rattle.cx_base.specs.declared.span.Span.{Span}
use Rattle.cx_cconst.specs.Constants.{converted, constant_in}
use Rattle.cx_cmean.specs.Program.{size_in, unit_in, offset_in, function_of}
use Rattle.cx_cmean.specs.Statements.{or_none}
use Rattle.cx_ctree.specs.Exprs.{ExprTree}
use Rattle.cx_ctree.specs.Types.{TypeTree, void, int, pointer, array, tag}
use Rattle.cx_gline.specs.Inside.{numbers_in}
use Rattle.cx_goto.specs.Trees.{InstrTree, const, call, LineTree, BlockTree}
use Rattle.cx_goto.specs.declared.code.End.{End}
use Rattle.cx_goto.specs.declared.code.End.TheVariants.{Jump, Branch, Return, Missing}
use Rattle.cx_lcode.specs.Items.{Item, line, start, blocks_of}
use Rattle.cx_lcode.specs.Values.{object_code}
use Rattle.cx_sname.specs.File.{Declared}

-- what is asked: C of the number of a constant
abbrev pub LineKeeps : Declared → (C : ℤ → Type 0) → InstrTree → Type 0
LineKeeps d C (const x v) = C v
LineKeeps d C (call x name args pointee) = length args ≡ length (function_of d name).params
LineKeeps d C _ = Unit {0}

-- blocks that are named are below m, and R of whether a return has a local; the end of a function with a result counts as one with a local
abbrev pub EndKeeps : (R : Bool → Type 0) → (m : ℕ) → End → Type 0
EndKeeps R m (Jump to) = to < m
EndKeeps R m (Branch r x y first second) = (first < m) × (second < m)
EndKeeps R m (Return x) = R (is_some x)
EndKeeps R m Missing = R true

abbrev pub Keeps : Declared → (C : ℤ → Type 0) → (R : Bool → Type 0) → (m : ℕ) → List Item → Type 0
Keeps d C R m [] = Unit {0}
Keeps d C R m (line l ∷ is) = LineKeeps d C l.instr × Keeps d C R m is
Keeps d C R m (start e s k ∷ is) = EndKeeps R m e × Keeps d C R m is

-- the numbers that lowering makes are allowed
pub record Allows (d : Declared) (C : ℤ → Type 0) : Type 0 where
  pub nought : C (pos 0)
  pub one : C (pos 1)
  pub size : (t : TypeTree) → C (pos (size_in d t))
  pub unit : (t : TypeTree) → C (pos (unit_in d t))
  pub offset : (t : TypeTree) (name : ℕ) → C (pos (offset_in d t name))
  pub wraps : (t : CInt) (v : ℤ) → C (converted t v)
  pub label : (e : ExprTree) → All C (numbers_in e) → C (or_none (constant_in d.known e))

-- ---- parts of rows

pub all_split : {A : Type 0} (P : A → Type 0) (xs ys : List A) → All P (xs ++ ys) → All P xs × All P ys
all_split P [] ys h = (All-nil P, h)
all_split P (x ∷ xs) ys h = let r = all_split P xs ys (All-tail P x (xs ++ ys) h) in (All-cons P x xs (All-head P x (xs ++ ys) h) r.0, r.1)

-- ---- single lines

pub keeps_if : (d : Declared) (C : ℤ → Type 0) (R : Bool → Type 0) (m : ℕ) (l : LineTree) (rest : List Item) (z : Bool) → LineKeeps d C l.instr → Keeps d C R m rest → Keeps d C R m (if z then rest else line l ∷ rest)
keeps_if d C R m l rest true a h = h
keeps_if d C R m l rest false a h = (a, h)

pub keeps_if_two : (d : Declared) (C : ℤ → Type 0) (R : Bool → Type 0) (m : ℕ) (l k : LineTree) (rest : List Item) (z : Bool) → LineKeeps d C l.instr → LineKeeps d C k.instr → Keeps d C R m rest → Keeps d C R m (if z then rest else line l ∷ line k ∷ rest)
keeps_if_two d C R m l k rest true a b h = h
keeps_if_two d C R m l k rest false a b h = (a, (b, h))

pub keeps_object : (d : Declared) (C : ℤ → Type 0) (R : Bool → Type 0) (m : ℕ) (s : Span) (v : TypeTree) (t : ℕ) (rest : List Item) → Keeps d C R m rest → Keeps d C R m (object_code s v t rest)
keeps_object d C R m s void t rest h = h
keeps_object d C R m s (int v) t rest h = (tt, h)
keeps_object d C R m s (pointer v) t rest h = (tt, h)
keeps_object d C R m s (array v n) t rest h = h
keeps_object d C R m s (tag k) t rest h = h

-- ---- blocks

pub record BlockKeeps (d : Declared) (C : ℤ → Type 0) (R : Bool → Type 0) (m : ℕ) (b : BlockTree) : Type 0 where
  pub lines : All (λ l. LineKeeps d C l.instr) b.lines
  pub end : EndKeeps R m b.end

all_push : (P : LineTree → Type 0) (ls : List LineTree) (l : LineTree) → All P ls → P l → All P (ls ++ l ∷ [])
all_push P [] l h p = All-cons P l [] p (All-nil P)
all_push P (k ∷ ls) l h p = All-cons P k (ls ++ l ∷ []) (All-head P k ls h) (all_push P ls l (All-tail P k ls h) p)

pub blocks_keep : (d : Declared) (C : ℤ → Type 0) (R : Bool → Type 0) (m : ℕ) (is : List Item) (keep : ℕ) (done : List LineTree) (e : End) (s : Span)
    → All (λ l. LineKeeps d C l.instr) done → Keeps d C R m is → EndKeeps R m e → All (BlockKeeps d C R m) (blocks_of keep done is e s)
blocks_keep d C R m [] keep done e s ls h k = All-cons (BlockKeeps d C R m) _ [] (record { lines = ls; end = k }) (All-nil (BlockKeeps d C R m))
blocks_keep d C R m (line l ∷ is) keep done e s ls h k = blocks_keep d C R m is keep (done ++ l ∷ []) e s (all_push (λ l. LineKeeps d C l.instr) done l ls h.0) h.1 k
blocks_keep d C R m (start x q n ∷ is) keep done e s ls h k =
    All-cons (BlockKeeps d C R m) _ (blocks_of n [] is e s) (record { lines = ls; end = h.0 }) (blocks_keep d C R m is n [] e s (All-nil (λ (l : LineTree). LineKeeps d C l.instr)) h.1 k)
