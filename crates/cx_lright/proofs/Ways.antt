-- What a statement's run shows, where each way on is given.
use Rattle.std.proofs.Common.{ℕ, zero, suc, ◌≡◌, ◌+◌, ◌<◌, ◌≤◌, Bool, true, List, length, refl, arith}
use Rattle.cx_base.specs.declared.token.Token.{Token}
use Rattle.cx_cmean.specs.Statements.{State, Ran, normal, broken, continued, stops, valued, after, looped, unbroken, with_turn, turned, in_world, exec_by}
use Rattle.cx_ctree.specs.Stmts.{StmtTree}
use Rattle.cx_ctree.specs.Types.{TypeTree}
use Rattle.cx_goto.specs.Machine.{Outcome, ended, follow, unset_from}
use Rattle.cx_lcode.specs.Items.{Item}
use Rattle.cx_lcode.specs.Needs.{stmt_need}
use Rattle.cx_lcode.specs.Places.{stmt_last}
use Rattle.cx_lcode.specs.Statements.{stmt_code}
use Rattle.cx_lright.proofs.Afters.{in_setting}
use Rattle.cx_lright.proofs.Locals.{Matches, Kept, matches_kept, kept_unset}
use Rattle.cx_lright.proofs.Machine.{Coded, Keeps, HasAt, Ends, Goes, goes_ahead, goes_back, goes_spent}
use Rattle.cx_lright.specs.Fine.{StmtFine}
use Rattle.cx_world.specs.World.{World, Did, gives, halts, Locals}

abbrev pub finish : Ran → (kn kb kc : State → Outcome) → Outcome
finish (normal st) kn kb kc = kn st
finish (broken st) kn kb kc = kb st
finish (continued st) kn kb kc = kc st
finish (stops h n w) kn kb kc = ended h n w

pub finish_valued : {A : Type 0} (d : Did A) (n : ℕ) (f : A → World → Ran) (kn kb kc : State → Outcome) → finish (valued d n f) kn kb kc ≡ follow d n (λ a w. finish (f a w) kn kb kc)
finish_valued (gives a w) n f kn kb kc = refl
finish_valued (halts h w) n f kn kb kc = refl

pub finish_after : (r : Ran) (f : State → Ran) (kn kb kc : State → Outcome) → finish (after r f) kn kb kc ≡ finish r (λ st. finish (f st) kn kb kc) kb kc
finish_after (normal st) f kn kb kc = refl
finish_after (broken st) f kn kb kc = refl
finish_after (continued st) f kn kb kc = refl
finish_after (stops h n w) f kn kb kc = refl

pub finish_looped : (r : Ran) (f : State → Ran) (kn kb kc : State → Outcome) → finish (looped r f) kn kb kc ≡ finish r (λ st. finish (f st) kn kb kc) kn (λ st. finish (f st) kn kb kc)
finish_looped (normal st) f kn kb kc = refl
finish_looped (broken st) f kn kb kc = refl
finish_looped (continued st) f kn kb kc = refl
finish_looped (stops h n w) f kn kb kc = refl

pub finish_unbroken : (r : Ran) (kn kb kc : State → Outcome) → finish (unbroken r) kn kb kc ≡ finish r kn kn kc
finish_unbroken (normal st) kn kb kc = refl
finish_unbroken (broken st) kn kb kc = refl
finish_unbroken (continued st) kn kb kc = refl
finish_unbroken (stops h n w) kn kb kc = refl

-- the locals of the code serve a state
pub record Fits (L m N : ℕ) (st : State) (ls : Locals) : Type 0 where
  pub low : Matches L st.locals ls
  pub wide : L ≤ length st.locals
  pub room : L + m ≤ length ls
  pub few : st.turns ≤ N

-- a jump to this block from a block of this range goes on so
abbrev pub Escapes : (c : Coded) (L m N lo hi to : ℕ) (k : State → Outcome) → Type 0
Escapes c L m N lo hi to k =
    (b : ℕ) (st : State) (ls : Locals) → lo ≤ b → b ≤ hi → Fits L m N st ls → Goes c b to ls st.turns st.world (k st)

-- what goes on after a statement
abbrev pub Normally : (c : Coded) (L m N b : ℕ) (rest : List Item) (kn : State → Outcome) → Type 0
Normally c L m N b rest kn = (i' : ℕ) (st' : State) (ls' : Locals) → HasAt c b i' rest → Fits L m N st' ls' → Ends c b i' ls' st'.turns st'.world (kn st')

-- what the code of a statement does, whatever comes after it
abbrev pub DoesStmt : (c : Coded) (tokens : List Token) (r : TypeTree) (L m N : ℕ) (again : StmtTree → State → Ran) (s : StmtTree) → Type 0
DoesStmt c tokens r L m N again s =
    (b i out next lo hi : ℕ) (il iw : Bool) (rest : List Item) (st : State) (ls : Locals) (kn kb kc : State → Outcome) → lo ≤ b → stmt_last s b ≤ hi → HasAt c b i (stmt_code (in_setting c tokens r L) b out next s rest)
    → StmtFine c.program.unit L il iw s → stmt_need c.program.unit s ≤ m → Fits L m N st ls → (iw ≡ true → Escapes c L m N lo hi out kb) → (il ≡ true → Escapes c L m N lo hi next kc)
    → Normally c L m N (stmt_last s b) rest kn → Ends c b i ls st.turns st.world (finish (exec_by c.program r again s st) kn kb kc)

pub fits_unset : (L m N : ℕ) (st : State) (ls : Locals) → Fits L m N st ls → Fits L m N st (unset_from L ls)
fits_unset L m N st ls fits =
    let room = fits.room in let k = kept_unset L L ls (omega arith) in let long = k.long in
    record { low = matches_kept L L st.locals ls (unset_from L ls) (omega arith) fits.low k; wide = fits.wide; room = omega (arith, room, long); few = fits.few }

pub fits_after : (L m N : ℕ) (st : State) (ls ls' : Locals) (w : World) → Fits L m N st ls → Kept L ls ls' → Fits L m N (in_world st w) ls'
fits_after L m N st ls ls' w fits k =
    let room = fits.room in let long = k.long in record { low = matches_kept L L st.locals ls ls' (omega arith) fits.low k; wide = fits.wide; room = omega (arith, room, long); few = fits.few }

-- a jump ahead to a block that keeps the locals of the tree
pub ahead_goes : (c : Coded) (L m N b to : ℕ) (st : State) (ls : Locals) (o : Outcome) → Keeps c to L → b < to → Fits L m N st ls
    → ((ls' : Locals) → Fits L m N st ls' → Ends c to 0 ls' st.turns st.world o) → Goes c b to ls st.turns st.world o
ahead_goes c L m N b to st ls o k lt fits next = goes_ahead c b to L st.turns ls st.world o k lt (next (unset_from L ls) (fits_unset L m N st ls fits))

-- a jump back takes a turn
pub turned_goes : (c : Coded) (L m N b h : ℕ) (st : State) (ls : Locals) (f : State → Ran) (kn kb kc : State → Outcome) → Keeps c h L → h ≤ b → Fits L m N st ls
    → ((t : ℕ) (ls' : Locals) → t < N → Matches L st.locals ls' → L + m ≤ length ls' → Ends c h 0 ls' t st.world (finish (f (record st { turns = t })) kn kb kc))
    → Goes c b h ls st.turns st.world (finish (turned st f) kn kb kc)
turned_goes c L m N b h st ls f kn kb kc k le fits next = by_turns st.turns fits.few
  where
    by_turns : (t : ℕ) → t ≤ N → Goes c b h ls t st.world (finish (with_turn t st f) kn kb kc)
    by_turns zero few = goes_spent c b h ls st.world le
    by_turns (suc t) few = let fits2 = fits_unset L m N st ls fits in goes_back c b h L t ls st.world _ k le (next t (unset_from L ls) (omega (arith, few)) fits2.low fits2.room)
