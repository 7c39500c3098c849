-- What is spelled as an expression is read, whatever follows that cannot go on.
use Rattle.std.proofs.Common.{◌≡◌, ℕ, zero, suc, pred, ◌+◌, ◌-◌, ◌*◌, ◌<◌, ◌≤◌, Bool, true, false, cond, List, [], ◌∷◌, ◌++◌, length, Option, Some, None, refl, sym, ap, ◌∙◌, subst, append_assoc, append-nil, arith, length-append}
use Rattle.std.proofs.lemmas.Bool.{eq-eqb}
use Rattle.std.proofs.lemmas.Bool.Decides.{nat_tests}
use Rattle.std.specs.Prelude.{nat_eq, nat_le, max, ◌&&◌}
use Rattle.cx_ctree.specs.declared.expr.Binary.{Binary}
use Rattle.cx_ctree.specs.Types.{TypeTree}
use Rattle.cx_ctree.specs.Exprs as node
use Rattle.cx_ctree.specs.Exprs.{ExprTree, ExprKindTree}
use Rattle.cx_ctree.specs.Path.{expr_path, kind_path}
use Rattle.cx_cword.specs.declared.word.Keyword.TheVariants as k
use Rattle.cx_cword.specs.declared.word.Punctuator.{Punctuator}
use Rattle.cx_cword.specs.declared.word.Punctuator.TheVariants as p
use Rattle.cx_cword.specs.declared.lexeme.Lexeme.{Lexeme}
use Rattle.cx_cword.specs.declared.lexeme.LexemeKind.{LexemeKind}
use Rattle.cx_cword.specs.Reading.{Is, IsWord, IsName, first_of, past_of, ◌>>=◌, at_lexeme}
use Rattle.cx_cname.specs.Known.{Known}
use Rattle.cx_cword.specs.declared.mark.Mark.{Mark}
use Rattle.cx_cword.specs.declared.mark.Mark.TheVariants as m
use Rattle.cx_cexpr.specs.declared.kinds.Head.{Head}
use Rattle.cx_cexpr.specs.declared.kinds.Head.TheVariants as h
use Rattle.cx_cexpr.specs.declared.kinds.Suffix.TheVariants as s
use Rattle.cx_cexpr.specs.declared.kinds.Leaf.{Leaf}
use Rattle.cx_cexpr.specs.declared.kinds.Leaf.TheVariants as leaf
use Rattle.cx_cexpr.specs.Expressions.{untyped, IsType, IsCond, unconditional, conditional, IsBinary, operand, lower, joined, IsCast, no_cast, casted, IsUnary, no_prefix, prefixed, size_of_value, size_of_type, IsPostfix, no_suffix, indexed, member_of, member_at, IsPrimary, named, number, inside}
use Rattle.cx_cexpr.specs.Kinds.{op_at, head_of, with_prefix, suffix_of, with_member, leaf_of}
use Rattle.cx_cexpr.specs.Reading.{Got, Few, wanted, made, spelled, enclosed_at, begins_type, opens_type, leaf_by, indexed_at, suffixed_by, prefixed_at, unary_by, cast_to, joined_at, chosen_at, more_by, choice_by, cond_at, choice_at, binary_at, climb_at, more_at, cast_at, unary_at, size_at, suffix_at, primary_at, rest_at}
use Rattle.cx_cexpr.specs.Reading as reading
use Rattle.cx_cexpr.proofs.Turns.{climb_operand, climb_turn}
use Rattle.cx_cexpr.proofs.Shapes.{is_op, prefixed_is, selector, name_leaf}
use Rattle.cx_cexpr.proofs.Spans.{first-append, past-append}
use Rattle.cx_cexpr.proofs.Begins.{starts_primary, primary_begins, cond_filled, binary_filled, cast_filled, unary_filled, primary_filled, unary_no_cast, begins-append, type_begins}
use Rattle.cx_cexpr.proofs.TypeAgain.{got_of, enclosed_there}
use Rattle.cx_cexpr.proofs.Ends.{binds, Ends, Continues, Ends-less, Continues-more, Continues-append, continues_ends, no_suffix_follows, other_op, no_question, op_level, op_continues, op_ends, mark_ends, question_ends}
use Rattle.cx_cword.specs.Marks.{fits}
use Rattle.cx_cword.proofs.Marks.{is_fit, kind_of}

-- ---- steps that are taken

made_again : (d : ℕ) (x : ExprTree) (past : ℕ) (rest : List Lexeme) → expr_path x ≤ d → made d x past rest ≡ Some (record { tree = x; past = past; rest = rest })
unfolding made
made_again d x past rest h = let low : nat_le (expr_path x) d ≡ true = grind (arith, nat_tests) in rw low refl

got_same : (kind : ExprKindTree) (front rest : List Lexeme) (first past : ℕ) → first_of front ≡ first → past_of front ≡ past → ◌≡◌ {A = Got ExprTree} (record { tree = spelled first past kind; past = past; rest = rest }) (got_of front (untyped front kind) rest)
got_same kind front rest first past e h = λ i. record { tree = spelled (sym e i) (sym h i) kind; past = sym h i; rest = rest }

-- a node of a front is made
made_there : (d : ℕ) (kind : ExprKindTree) (front rest : List Lexeme) (first past : ℕ) → first_of front ≡ first → past_of front ≡ past → expr_path (untyped front kind) ≤ d → made d (spelled first past kind) past rest ≡ Some (got_of front (untyped front kind) rest)
made_there d kind front rest first past e h low = made_again d (spelled first past kind) past rest low ∙ ap Some (got_same kind front rest first past e h)

turn_left : (n : ℕ) → 0 < n → n ≡ suc (pred n)
turn_left zero h = absurd (omega arith)
turn_left (suc n) h = refl

wanted_there : {A : Type 0} (mark : Mark) (c : Lexeme) (rest : List Lexeme) (go : Lexeme → List Lexeme → Option A) → c.kind ≡ kind_of mark → wanted mark (c ∷ rest) go ≡ go c rest
wanted_there mark c rest go e = ap (λ (b : Bool). cond b (go c rest) None) (is_fit mark c.kind e)

first_lead : (front lead more : List Lexeme) → front ≡ lead ++ more → 0 < length lead → first_of front ≡ first_of lead
first_lead front lead more parts filled = ap first_of parts ∙ first-append lead more filled

more_by_ends : (side : List Lexeme → Option (Got ExprTree)) (again : Got ExprTree → Option (Got ExprTree)) (d level first : ℕ) (x : Got ExprTree) (rest : List Lexeme) (kind : LexemeKind) (f : Option (ℕ × Binary)) → op_at kind ≡ f → level < binds kind → more_by side again d level first x rest f ≡ Some x
more_by_ends side again d level first x rest kind None e ends = refl
more_by_ends side again d level first x rest kind (Some f) e ends = ap (λ (b : Bool). cond b (side rest >>= (λ y. joined_at d first f.1 x y >>= again)) (Some x)) (other_op kind f level e ends)

more_rest : (side : List Lexeme → Option (Got ExprTree)) (again : Got ExprTree → Option (Got ExprTree)) (d level first : ℕ) (x : Got ExprTree) (rest : List Lexeme) → Ends level rest → at_lexeme rest (Some x) (λ o ts. more_by side again d level first x ts (op_at o.kind)) ≡ Some x
more_rest side again d level first x [] ends = refl
more_rest side again d level first x (o ∷ rest) ends = more_by_ends side again d level first x rest o.kind (op_at o.kind) refl ends

suffix_rest : (inner : List Lexeme → Option (Got ExprTree)) (again : Got ExprTree → Option (Got ExprTree)) (d first : ℕ) (x : Got ExprTree) (rest : List Lexeme) → Ends 0 rest → at_lexeme rest (Some x) (λ o ts. suffixed_by inner again d first x ts (suffix_of o.kind)) ≡ Some x
suffix_rest inner again d first x [] ends = refl
suffix_rest inner again d first x (o ∷ rest) ends = ap (suffixed_by inner again d first x rest) (no_suffix_follows o.kind ends)

choice_rest : (inner : List Lexeme → Option (Got ExprTree)) (d first : ℕ) (x : Got ExprTree) (rest : List Lexeme) → Ends 11 rest → at_lexeme rest (Some x) (λ o ts. cond (fits m.Question o.kind) (choice_by inner d first x ts) (Some x)) ≡ Some x
choice_rest inner d first x [] ends = refl
choice_rest inner d first x (o ∷ rest) ends = ap (λ (b : Bool). cond b (choice_by inner d first x rest) (Some x)) (no_question o.kind ends)

suffix_mark : (arrow : Bool) (o : Lexeme) → Is (selector arrow) o → suffix_of o.kind ≡ Some (s.Member arrow)
suffix_mark false o e = ap suffix_of e
suffix_mark true o e = ap suffix_of e

primary_head : (env : Known) (o : Lexeme) (a rest more : List Lexeme) → starts_primary env a → a ++ rest ≡ o ∷ more → head_of o.kind ≡ h.Other
primary_head env o [] rest more begins e = absurd begins
primary_head env o (q ∷ a) rest more begins e = let same : q ≡ o = cc in ap (λ (x : Lexeme). head_of x.kind) (sym same) ∙ begins.0

pub opens_so : (env : Known) (o : Lexeme) (a : List Lexeme) → Is p.OpenParen o → begins_type env a ≡ true → opens_type env (o ∷ a) ≡ true
opens_so env o a e begins = ap (λ (b : Bool). b && begins_type env a) (is_fit m.OpenParen o.kind e) ∙ begins

-- ---- expressions

module _ (env : Known) where
  more_ends : (n d level first : ℕ) (x : Got ExprTree) (rest : List Lexeme) → 0 < n → x.rest ≡ rest → Ends level rest → more_at env n d level first x ≡ Some x
  unfolding cond_at
  more_ends zero d level first x rest h is ends = absurd (omega arith)
  more_ends (suc n) d level first x rest h is ends =
      ap (λ (r : List Lexeme). at_lexeme r (Some x) (λ o ts. more_by (binary_at env n (d - 1) (pred level)) (more_at env n d level first) d level first x ts (op_at o.kind))) is ∙ more_rest (binary_at env n (d - 1) (pred level)) (more_at env n d level first) d level first x rest ends

  suffix_ends : (n d first : ℕ) (x : Got ExprTree) (rest : List Lexeme) → 0 < n → x.rest ≡ rest → Ends 0 rest → suffix_at env n d first x ≡ Some x
  unfolding cond_at
  suffix_ends zero d first x rest h is ends = absurd (omega arith)
  suffix_ends (suc n) d first x rest h is ends =
      ap (λ (r : List Lexeme). at_lexeme r (Some x) (λ o ts. suffixed_by (cond_at env n (d - 1)) (suffix_at env n d first) d first x ts (suffix_of o.kind))) is ∙ suffix_rest (cond_at env n (d - 1)) (suffix_at env n d first) d first x rest ends

  choice_ends : (n d first : ℕ) (x : Got ExprTree) (rest : List Lexeme) → 0 < n → x.rest ≡ rest → Ends 11 rest → choice_at env n d first x ≡ Some x
  unfolding cond_at
  choice_ends zero d first x rest h is ends = absurd (omega arith)
  choice_ends (suc n) d first x rest h is ends =
      ap (λ (r : List Lexeme). at_lexeme r (Some x) (λ o ts. cond (fits m.Question o.kind) (choice_by (cond_at env n (d - 1)) d first x ts) (Some x))) is ∙ choice_rest (cond_at env n (d - 1)) d first x rest ends

  abbrev pub go_on : ℕ → ℕ → ℕ → ℕ → Got ExprTree → Option (Got ExprTree)
  go_on n d zero first x = Some x
  go_on n d (suc level) first x = more_at env n d (suc level) first x

  -- an expression is an operand and what reading goes on with to its end
  pub record Climbs (level : ℕ) (front : List Lexeme) (t : ExprTree) : Type 0 where
    pub lead : List Lexeme
    pub more : List Lexeme
    pub x : ExprTree
    pub lead_is : IsCast env lead x
    pub parts : front ≡ lead ++ more
    pub low : expr_path x ≤ expr_path t
    pub on : Continues level more
    pub reads : (n d : ℕ) (rest : List Lexeme) → Ends 0 rest → 16 * length (lead ++ rest) + 3 ≤ n → expr_path x ≤ d → cast_at env n d (lead ++ rest) ≡ Some (got_of lead x rest)
    pub goes : (n d : ℕ) (rest : List Lexeme) → Ends (pred level) rest → 16 * length (more ++ rest) + level + 1 ≤ n → expr_path t ≤ d
        → (m : ℕ) × (16 * length rest + 1 ≤ m) × (climb_at env n d level (first_of lead) (got_of lead x (more ++ rest)) ≡ go_on m d level (first_of lead) (got_of front t rest))

  go_ends : (n d level first : ℕ) (x : Got ExprTree) (rest : List Lexeme) → 0 < n → x.rest ≡ rest → Ends level rest → go_on n d level first x ≡ Some x
  go_ends n d zero first x rest h is ends = refl
  go_ends n d (suc level) first x rest h is ends = more_ends n d (suc level) first x rest h is ends

  begins_with : (lead rest : List Lexeme) (n d level : ℕ) → 0 < length lead → at_lexeme (lead ++ rest) None (λ o r. cast_at env n d (lead ++ rest) >>= climb_at env n d level o.span.first) ≡ (cast_at env n d (lead ++ rest) >>= climb_at env n d level (first_of lead))
  begins_with [] rest n d level h = absurd (omega arith)
  begins_with (o ∷ lead) rest n d level h = refl

  -- from the leading operand to the end
  climb_there : (level : ℕ) (front : List Lexeme) (t : ExprTree) (c : Climbs level front t) (n d : ℕ) (rest : List Lexeme) → Ends level rest → 16 * length (c.more ++ rest) + level + 1 ≤ n → expr_path t ≤ d → climb_at env n d level (first_of c.lead) (got_of c.lead c.x (c.more ++ rest)) ≡ Some (got_of front t rest)
  climb_there level front t c n d rest ends enough low =
      let g = c.goes n d rest (Ends-less (pred level) level rest (omega arith) ends) enough low in
      g.2 ∙ go_ends g.0 d level (first_of c.lead) (got_of front t rest) rest (omega (arith, g.1)) refl ends

  pub binary_there : (level : ℕ) (front : List Lexeme) (t : ExprTree) → Climbs level front t → (n d : ℕ) (rest : List Lexeme) → Ends level rest → level ≤ 10 → 16 * length (front ++ rest) + 4 ≤ n → expr_path t ≤ d → binary_at env n d level (front ++ rest) ≡ Some (got_of front t rest)
  unfolding cond_at
  binary_there level front t c zero d rest ends small enough low = absurd (omega arith)
  binary_there level front t c (suc n) d rest ends small enough low =
      let parts : front ++ rest ≡ c.lead ++ (c.more ++ rest) = ap (λ (v : List Lexeme). v ++ rest) c.parts ∙ append_assoc c.lead c.more rest in
      let lengths = ap length parts in
      let filled = cast_filled c.lead_is in
      let read = c.reads n d (c.more ++ rest) (continues_ends level c.more rest c.on (Ends-less 0 level rest (omega arith) ends)) (omega (arith, lengths, enough)) (omega (arith, c.low, low)) in
      ap (binary_at env (suc n) d level) parts ∙ begins_with c.lead (c.more ++ rest) n d level filled
      ∙ ap (λ (r : Option (Got ExprTree)). r >>= climb_at env n d level (first_of c.lead)) read
      ∙ climb_there level front t c n d rest ends (omega (arith, lengths, enough, filled, small, length-append c.lead (c.more ++ rest))) low

  -- a conditional expression is an operand and what reading goes on with to its end
  pub record Rests (front : List Lexeme) (t : ExprTree) : Type 0 where
    pub lead : List Lexeme
    pub more : List Lexeme
    pub x : ExprTree
    pub lead_is : IsCast env lead x
    pub parts : front ≡ lead ++ more
    pub low : expr_path x ≤ expr_path t
    pub on : Continues 11 more
    pub reads : (n d : ℕ) (rest : List Lexeme) → Ends 0 rest → 16 * length (lead ++ rest) + 3 ≤ n → expr_path x ≤ d → cast_at env n d (lead ++ rest) ≡ Some (got_of lead x rest)
    pub goes : (n k d : ℕ) (rest : List Lexeme) → Ends 11 rest → 16 * length (more ++ rest) + 11 ≤ n → 16 * length (more ++ rest) + 11 ≤ k → expr_path t ≤ d
        → (climb_at env n d 10 (first_of lead) (got_of lead x (more ++ rest)) >>= choice_at env k d (first_of lead)) ≡ Some (got_of front t rest)

  cond_begins_with : (front rest : List Lexeme) (n d : ℕ) → 0 < length front → at_lexeme (front ++ rest) None (λ o r. binary_at env n d 10 (front ++ rest) >>= choice_at env n d o.span.first) ≡ (binary_at env n d 10 (front ++ rest) >>= choice_at env n d (first_of front))
  cond_begins_with [] rest n d h = absurd (omega arith)
  cond_begins_with (o ∷ front) rest n d h = refl

  rests_there : (front : List Lexeme) (t : ExprTree) → Rests front t → (n d : ℕ) (rest : List Lexeme) → Ends 11 rest → 16 * length (front ++ rest) + 5 ≤ n → expr_path t ≤ d → cond_at env n d (front ++ rest) ≡ Some (got_of front t rest)
  unfolding cond_at
  rests_there front t c zero d rest ends enough low = absurd (omega arith)
  rests_there front t c (suc zero) d rest ends enough low = absurd (omega arith)
  rests_there front t c (suc (suc n)) d rest ends enough low =
      let parts : front ++ rest ≡ c.lead ++ (c.more ++ rest) = ap (λ (v : List Lexeme). v ++ rest) c.parts ∙ append_assoc c.lead c.more rest in
      let lengths = ap length parts in
      let filled = cast_filled c.lead_is in
      let sizes = length-append c.lead (c.more ++ rest) in
      let read = c.reads n d (c.more ++ rest) (continues_ends 11 c.more rest c.on (Ends-less 0 11 rest (omega arith) ends)) (omega (arith, lengths, enough)) (omega (arith, c.low, low)) in
      ap (cond_at env (suc (suc n)) d) parts ∙ cond_begins_with c.lead (c.more ++ rest) (suc n) d filled
      ∙ ap (λ (r : Option (Got ExprTree)). r >>= choice_at env (suc n) d (first_of c.lead)) (begins_with c.lead (c.more ++ rest) n d 10 filled ∙ ap (λ (r : Option (Got ExprTree)). r >>= climb_at env n d 10 (first_of c.lead)) read)
      ∙ c.goes n (suc n) d rest ends (omega (arith, lengths, enough, filled, sizes)) (omega (arith, lengths, enough, filled, sizes)) low

  -- ---- one step of each rule

  more_joins : (n d level first : ℕ) (x y z : Got ExprTree) (o : Lexeme) (f : Binary) (ts : List Lexeme) → x.rest ≡ o ∷ ts → op_at o.kind ≡ Some (suc level, f) → binary_at env n (d - 1) level ts ≡ Some y → joined_at d first f x y ≡ Some z
      → more_at env (suc n) d (suc level) first x ≡ more_at env n d (suc level) first z
  unfolding cond_at
  more_joins n d level first x y z o f ts is op read made_so =
      let again : Got ExprTree → Option (Got ExprTree) = more_at env n d (suc level) first in
      let same = eq-eqb (suc level) (suc level) refl in
      ap (λ (r : List Lexeme). at_lexeme r (Some x) (λ o ts. more_by (binary_at env n (d - 1) level) again d (suc level) first x ts (op_at o.kind))) is
      ∙ ap (more_by (binary_at env n (d - 1) level) again d (suc level) first x ts) op
      ∙ ap (λ (b : Bool). cond b (binary_at env n (d - 1) level ts >>= (λ y. joined_at d first f x y >>= again)) (Some x)) same
      ∙ ap (λ (r : Option (Got ExprTree)). r >>= (λ y. joined_at d first f x y >>= again)) read
      ∙ ap (λ (r : Option (Got ExprTree)). r >>= again) made_so

  suffix_indexes : (n d first : ℕ) (x y z : Got ExprTree) (o : Lexeme) (ts : List Lexeme) → x.rest ≡ o ∷ ts → Is p.OpenBracket o → cond_at env n (d - 1) ts ≡ Some y → indexed_at d first x y ≡ Some z
      → suffix_at env (suc n) d first x ≡ suffix_at env n d first z
  unfolding cond_at
  suffix_indexes n d first x y z o ts is kind read made_so =
      let again : Got ExprTree → Option (Got ExprTree) = suffix_at env n d first in
      ap (λ (r : List Lexeme). at_lexeme r (Some x) (λ o ts. suffixed_by (cond_at env n (d - 1)) again d first x ts (suffix_of o.kind))) is
      ∙ ap (λ (v : LexemeKind). suffixed_by (cond_at env n (d - 1)) again d first x ts (suffix_of v)) kind
      ∙ ap (λ (r : Option (Got ExprTree)). r >>= (λ y. indexed_at d first x y >>= again)) read
      ∙ ap (λ (r : Option (Got ExprTree)). r >>= again) made_so

  suffix_members : (n d first : ℕ) (arrow : Bool) (x z : Got ExprTree) (o : Lexeme) (ts : List Lexeme) → x.rest ≡ o ∷ ts → Is (selector arrow) o → reading.member_at d first arrow x ts ≡ Some z
      → suffix_at env (suc n) d first x ≡ suffix_at env n d first z
  unfolding cond_at
  suffix_members n d first arrow x z o ts is kind made_so =
      let again : Got ExprTree → Option (Got ExprTree) = suffix_at env n d first in
      ap (λ (r : List Lexeme). at_lexeme r (Some x) (λ o ts. suffixed_by (cond_at env n (d - 1)) again d first x ts (suffix_of o.kind))) is
      ∙ ap (suffixed_by (cond_at env n (d - 1)) again d first x ts) (suffix_mark arrow o kind)
      ∙ ap (λ (r : Option (Got ExprTree)). r >>= again) made_so

  choice_goes : (n d first : ℕ) (x y u z : Got ExprTree) (o c : Lexeme) (ts us : List Lexeme) → x.rest ≡ o ∷ ts → Is p.Question o → cond_at env n (d - 1) ts ≡ Some y → y.rest ≡ c ∷ us → Is p.Colon c → cond_at env n (d - 1) us ≡ Some u → chosen_at d first x y u ≡ Some z
      → choice_at env (suc n) d first x ≡ Some z
  unfolding cond_at
  choice_goes n d first x y u z o c ts us is kind read then colon after made_so =
      let inner : List Lexeme → Option (Got ExprTree) = cond_at env n (d - 1) in
      let last : Lexeme → List Lexeme → Option (Got ExprTree) = λ c after. inner after >>= chosen_at d first x y in
      ap (λ (r : List Lexeme). at_lexeme r (Some x) (λ o ts. cond (fits m.Question o.kind) (choice_by inner d first x ts) (Some x))) is
      ∙ ap (λ (b : Bool). cond b (choice_by inner d first x ts) (Some x)) (is_fit m.Question o.kind kind)
      ∙ ap (λ (r : Option (Got ExprTree)). r >>= λ y. wanted m.Colon y.rest (λ c after. inner after >>= chosen_at d first x y)) read
      ∙ ap (λ (r : List Lexeme). wanted m.Colon r last) then ∙ wanted_there m.Colon c us last colon
      ∙ ap (λ (r : Option (Got ExprTree)). r >>= chosen_at d first x y) after ∙ made_so

  cast_goes : (n d : ℕ) (o : Lexeme) (ts : List Lexeme) (t : Got TypeTree) (x z : Got ExprTree) → opens_type env (o ∷ ts) ≡ true → enclosed_at env (d - 1) (o ∷ ts) ≡ Some t → cast_at env n (d - 1) t.rest ≡ Some x → cast_to d o.span.first t x ≡ Some z
      → cast_at env (suc n) d (o ∷ ts) ≡ Some z
  unfolding cond_at
  cast_goes n d o ts t x z opens types read made_so =
      ap (λ (b : Bool). cond b (enclosed_at env (d - 1) (o ∷ ts) >>= λ t. cast_at env n (d - 1) t.rest >>= cast_to d o.span.first t) (unary_at env n d (o ∷ ts))) opens
      ∙ ap (λ (r : Option (Got TypeTree)). r >>= λ t. cast_at env n (d - 1) t.rest >>= cast_to d o.span.first t) types
      ∙ ap (λ (r : Option (Got ExprTree)). r >>= cast_to d o.span.first t) read ∙ made_so

  no_cast_goes : (n d : ℕ) (ts : List Lexeme) → 0 < length ts → opens_type env ts ≡ false → cast_at env (suc n) d ts ≡ unary_at env n d ts
  unfolding cond_at
  no_cast_goes n d [] h e = absurd (omega arith)
  no_cast_goes n d (o ∷ ts) h e = ap (λ (b : Bool). cond b (enclosed_at env (d - 1) (o ∷ ts) >>= λ t. cast_at env n (d - 1) t.rest >>= cast_to d o.span.first t) (unary_at env n d (o ∷ ts))) e

  abbrev dispatch : ℕ → ℕ → Lexeme → List Lexeme → Head → Option (Got ExprTree)
  dispatch n d o ts x = unary_by (cast_at env n (d - 1)) (size_at env n d o.span.first ts) (primary_at env n d (o ∷ ts) >>= suffix_at env n d o.span.first) d o ts x

  unary_goes : (n d : ℕ) (lead rest : List Lexeme) → 0 < length lead → starts_primary env lead → unary_at env (suc n) d (lead ++ rest) ≡ (primary_at env n d (lead ++ rest) >>= suffix_at env n d (first_of lead))
  unfolding cond_at
  unary_goes n d [] rest h e = absurd (omega arith)
  unary_goes n d (o ∷ lead) rest h e = ap (dispatch n d o (lead ++ rest)) e.0

  not_zero : (d : ℕ) → 0 < d → nat_eq d 0 ≡ false
  not_zero d h = grind (arith, nat_tests)

  size_type_goes : (n d : ℕ) (o : Lexeme) (ts : List Lexeme) (t : Got TypeTree) (z : Got ExprTree) → IsWord k.SizeOf o → opens_type env ts ≡ true → enclosed_at env (d - 1) ts ≡ Some t → reading.size_of_type d o.span.first t ≡ Some z
      → unary_at env (suc (suc n)) d (o ∷ ts) ≡ Some z
  unfolding cond_at
  size_type_goes n d o ts t z is opens types made_so =
      ap (λ (v : LexemeKind). dispatch (suc n) d o ts (head_of v)) is
      ∙ ap (λ (b : Bool). cond b (enclosed_at env (d - 1) ts >>= reading.size_of_type d o.span.first) (cond (nat_eq d 0) None (unary_at env n (d - 1) ts >>= reading.size_of_value d o.span.first))) opens
      ∙ ap (λ (r : Option (Got TypeTree)). r >>= reading.size_of_type d o.span.first) types ∙ made_so

  size_value_goes : (n d : ℕ) (o : Lexeme) (ts : List Lexeme) (x z : Got ExprTree) → IsWord k.SizeOf o → opens_type env ts ≡ false → unary_at env n (d - 1) ts ≡ Some x → reading.size_of_value d o.span.first x ≡ Some z → 0 < d
      → unary_at env (suc (suc n)) d (o ∷ ts) ≡ Some z
  unfolding cond_at
  size_value_goes n d o ts x z is opens read made_so some =
      ap (λ (v : LexemeKind). dispatch (suc n) d o ts (head_of v)) is
      ∙ ap (λ (b : Bool). cond b (enclosed_at env (d - 1) ts >>= reading.size_of_type d o.span.first) (cond (nat_eq d 0) None (unary_at env n (d - 1) ts >>= reading.size_of_value d o.span.first))) opens
      ∙ ap (λ (b : Bool). cond b None (unary_at env n (d - 1) ts >>= reading.size_of_value d o.span.first)) (not_zero d some)
      ∙ ap (λ (r : Option (Got ExprTree)). r >>= reading.size_of_value d o.span.first) read ∙ made_so

  -- a postfix expression is a primary one and the suffixes that reading goes on with
  record Suffixes (front : List Lexeme) (t : ExprTree) : Type 0 where
    lead : List Lexeme
    more : List Lexeme
    x : ExprTree
    parts : front ≡ lead ++ more
    filled : 0 < length lead
    low : expr_path x ≤ expr_path t
    begins : starts_primary env lead
    reads : (n d : ℕ) (rest : List Lexeme) → 16 * length (lead ++ rest) + 1 ≤ n → expr_path x ≤ d → primary_at env n d (lead ++ rest) ≡ Some (got_of lead x rest)
    goes : (n d : ℕ) (rest : List Lexeme) → 16 * length (more ++ rest) + 1 ≤ n → expr_path t ≤ d
        → (m : ℕ) × (16 * length rest + 1 ≤ m) × (suffix_at env n d (first_of lead) (got_of lead x (more ++ rest)) ≡ suffix_at env m d (first_of lead) (got_of front t rest))

  leaf_there : (n d : ℕ) (o : Lexeme) (rest : List Lexeme) (x : Leaf) (kind : ExprKindTree) → leaf_of o.kind ≡ x → leaf_by env (cond_at env n d) d o rest x ≡ made d (spelled o.span.first o.span.past kind) o.span.past rest → expr_path (untyped (o ∷ []) kind) ≤ d
      → primary_at env (suc n) d (o ∷ rest) ≡ Some (got_of (o ∷ []) (untyped (o ∷ []) kind) rest)
  unfolding cond_at
  leaf_there n d o rest x kind e goes low = ap (leaf_by env (cond_at env n d) d o rest) e ∙ goes ∙ made_there d kind (o ∷ []) rest o.span.first o.span.past refl refl low

  inside_goes : (n d : ℕ) (o c : Lexeme) (ts rest : List Lexeme) (x : Got ExprTree) → Is p.OpenParen o → cond_at env n d ts ≡ Some x → x.rest ≡ c ∷ rest → Is p.CloseParen c → primary_at env (suc n) d (o ∷ ts) ≡ Some (record { tree = x.tree; past = c.span.past; rest = rest })
  unfolding cond_at
  inside_goes n d o c ts rest x is read then close =
      let shut : Lexeme → List Lexeme → Option (Got ExprTree) = λ c after. Some (record { tree = x.tree; past = c.span.past; rest = after }) in
      ap (λ (v : LexemeKind). leaf_by env (cond_at env n d) d o ts (leaf_of v)) is
      ∙ ap (λ (r : Option (Got ExprTree)). r >>= λ x. wanted m.CloseParen x.rest (λ c after. Some (record { tree = x.tree; past = c.span.past; rest = after }))) read
      ∙ ap (λ (r : List Lexeme). wanted m.CloseParen r shut) then ∙ wanted_there m.CloseParen c rest shut close

  -- ---- from the parts of a rule to the whole

  join_step : (level : ℕ) (a b : List Lexeme) (l r : ExprTree) (o : Lexeme) (f : Binary) → Climbs (suc level) a l → Climbs level b r → 0 < length b → op_at o.kind ≡ Some (suc level, f) → Climbs (suc level) (a ++ o ∷ b) (untyped (a ++ o ∷ b) (node.binary f l r))
  join_step level a b l r o f q w filled e =
      let front : List Lexeme = a ++ o ∷ b in
      let parts : front ≡ q.lead ++ (q.more ++ o ∷ b) = ap (λ (v : List Lexeme). v ++ o ∷ b) q.parts ∙ append_assoc q.lead q.more (o ∷ b) in
      record {
        lead = q.lead;
        more = q.more ++ o ∷ b;
        x = q.x;
        lead_is = q.lead_is;
        parts = parts;
        low = omega (arith, q.low);
        on = Continues-append (suc level) q.more (o ∷ b) q.on (op_continues o (suc level, f) b e);
        reads = q.reads;
        goes = λ n d rest ends enough low.
            let after : List Lexeme = o ∷ (b ++ rest) in
            let same : (q.more ++ o ∷ b) ++ rest ≡ q.more ++ after = append_assoc q.more (o ∷ b) rest in
            let g = q.goes n d after (op_ends o level f (b ++ rest) e) (omega (arith, enough, ap length same)) (omega (arith, low)) in
            let m : ℕ = pred g.0 in
            let one : g.0 ≡ suc m = turn_left g.0 (omega (arith, g.1)) in
            let small = (op_level o.kind (suc level, f) e).1 in
            let read = binary_there level b r w m (d - 1) rest ends (omega (arith, small)) (omega (arith, g.1, one)) (omega (arith, low)) in
            let first : ℕ = first_of q.lead in
            let begins : first_of front ≡ first = first_lead front q.lead (q.more ++ o ∷ b) parts (cast_filled q.lead_is) in
            let past : past_of front ≡ past_of b = past-append a (o ∷ b) (omega arith) ∙ past-append (o ∷ []) b filled in (
              m,
              omega (arith, g.1, one, length-append b rest),
              ap (λ (v : List Lexeme). climb_at env n d (suc level) first (got_of q.lead q.x v)) same ∙ g.2 ∙ ap (λ (v : ℕ). more_at env v d (suc level) first (got_of a l after)) one
                  ∙ more_joins m d level first (got_of a l after) (got_of b r rest) (got_of front (untyped front (node.binary f l r)) rest) o f (b ++ rest) refl e read (made_there d (node.binary f l r) front rest first (past_of b) begins past low),
            );
      }

  lower_step : (level : ℕ) (front : List Lexeme) (t : ExprTree) → Climbs level front t → Climbs (suc level) front t
  lower_step level front t q = record {
    lead = q.lead;
    more = q.more;
    x = q.x;
    lead_is = q.lead_is;
    parts = q.parts;
    low = q.low;
    on = Continues-more level (suc level) q.more (omega arith) q.on;
    reads = q.reads;
    goes = λ n d rest ends enough low.
        let there = climb_there level front t q (n - 1) d rest ends (omega (arith, enough)) low in
        let turn = climb_turn env n d (suc level) (first_of q.lead) (got_of q.lead q.x (q.more ++ rest)) (omega (arith, enough)) (omega arith) in
        let one : suc level - 1 ≡ level = omega arith in
        (n - 1, omega (arith, enough, length-append q.more rest), turn ∙ rw (one, there) refl);
  }

  operand_step : (front : List Lexeme) (t : ExprTree) → IsCast env front t
      → ((n d : ℕ) (rest : List Lexeme) → Ends 0 rest → 16 * length (front ++ rest) + 3 ≤ n → expr_path t ≤ d → cast_at env n d (front ++ rest) ≡ Some (got_of front t rest)) → Climbs zero front t
  operand_step front t h again = record {
    lead = front;
    more = [];
    x = t;
    lead_is = h;
    parts = sym (append-nil front);
    low = omega arith;
    on = tt;
    reads = again;
    goes = λ n d rest ends enough low. (n, omega (arith, enough), climb_operand env n d (first_of front) (got_of front t rest) (omega (arith, enough)));
  }

  only_step : (front : List Lexeme) (t : ExprTree) → Climbs 10 front t → Rests front t
  only_step front t q = record {
    lead = q.lead;
    more = q.more;
    x = q.x;
    lead_is = q.lead_is;
    parts = q.parts;
    low = q.low;
    on = Continues-more 10 11 q.more (omega arith) q.on;
    reads = q.reads;
    goes = λ n k d rest ends enough also low.
        let first : ℕ = first_of q.lead in
        ap (λ (r : Option (Got ExprTree)). r >>= choice_at env k d first) (climb_there 10 front t q n d rest (Ends-less 10 11 rest (omega arith) ends) (omega (arith, enough)) low)
        ∙ choice_ends k d first (got_of front t rest) rest (omega (arith, also)) refl ends;
  }

  choose_step : (a b c : List Lexeme) (x y z : ExprTree) (q o : Lexeme) → Climbs 10 a x → Is p.Question q → Rests b y → Is p.Colon o → Rests c z → 0 < length c → Rests (a ++ q ∷ b ++ o ∷ c) (untyped (a ++ q ∷ b ++ o ∷ c) (node.cond x y z))
  choose_step a b c x y z q o f is g colon h filled =
      let front : List Lexeme = a ++ q ∷ b ++ o ∷ c in
      let tail : List Lexeme = q ∷ (b ++ o ∷ c) in
      let parts : front ≡ f.lead ++ (f.more ++ tail) = append_assoc a (q ∷ b) (o ∷ c) ∙ ap (λ (v : List Lexeme). v ++ tail) f.parts ∙ append_assoc f.lead f.more tail in
      record {
        lead = f.lead;
        more = f.more ++ tail;
        x = f.x;
        lead_is = f.lead_is;
        parts = parts;
        low = omega (arith, f.low);
        on = Continues-append 11 f.more tail (Continues-more 10 11 f.more (omega arith) f.on) (let e = ap binds is in (omega (arith, e), omega (arith, e)));
        reads = f.reads;
        goes = λ n k d rest ends enough also low.
            let second : List Lexeme = b ++ o ∷ (c ++ rest) in
            let after : List Lexeme = q ∷ second in
            let same : (f.more ++ tail) ++ rest ≡ f.more ++ after = append_assoc f.more tail rest ∙ ap (λ (v : List Lexeme). f.more ++ (q ∷ v)) (append_assoc b (o ∷ c) rest) in
            let lengths = ap length same in
            let sizes = length-append f.more after in
            let more_sizes = length-append b (o ∷ (c ++ rest)) in
            let first : ℕ = first_of f.lead in
            let m : ℕ = pred k in
            let one : k ≡ suc m = turn_left k (omega (arith, also)) in
            let left = climb_there 10 a x f n d after (question_ends q 10 second is (omega arith)) (omega (arith, enough, lengths)) (omega (arith, low)) in
            let read = rests_there b y g m (d - 1) (o ∷ (c ++ rest)) (mark_ends o p.Colon 11 (c ++ rest) colon refl (omega arith)) (omega (arith, also, lengths, sizes, one)) (omega (arith, low)) in
            let last = rests_there c z h m (d - 1) rest ends (omega (arith, also, lengths, sizes, more_sizes, one)) (omega (arith, low)) in
            let begins : first_of front ≡ first = first_lead front f.lead (f.more ++ tail) parts (cast_filled f.lead_is) in
            let past : past_of front ≡ past_of c = past-append (a ++ q ∷ b) (o ∷ c) (omega arith) ∙ past-append (o ∷ []) c filled in
            ap (λ (v : List Lexeme). climb_at env n d 10 first (got_of f.lead f.x v) >>= choice_at env k d first) same
            ∙ ap (λ (r : Option (Got ExprTree)). r >>= choice_at env k d first) left
            ∙ ap (λ (v : ℕ). choice_at env v d first (got_of a x after)) one
            ∙ choice_goes m d first (got_of a x after) (got_of b y (o ∷ (c ++ rest))) (got_of c z rest) (got_of front (untyped front (node.cond x y z)) rest) q o second (c ++ rest) refl is read refl colon last
            (made_there d (node.cond x y z) front rest first (past_of c) begins past low);
      }

  primary_step : (front : List Lexeme) (t : ExprTree) → IsPrimary env front t
      → ((n d : ℕ) (rest : List Lexeme) → 16 * length (front ++ rest) + 1 ≤ n → expr_path t ≤ d → primary_at env n d (front ++ rest) ≡ Some (got_of front t rest)) → Suffixes front t
  primary_step front t h again = record {
    lead = front;
    more = [];
    x = t;
    parts = sym (append-nil front);
    filled = primary_filled h;
    low = omega arith;
    begins = primary_begins h;
    reads = again;
    goes = λ n d rest enough low. (n, enough, refl);
  }

  index_step : (a b : List Lexeme) (l r : ExprTree) (o c : Lexeme) → Suffixes a l → Is p.OpenBracket o → Rests b r → Is p.CloseBracket c → Suffixes (a ++ o ∷ b ++ c ∷ []) (untyped (a ++ o ∷ b ++ c ∷ []) (node.index l r))
  index_step a b l r o c q e w f =
      let front : List Lexeme = a ++ o ∷ b ++ c ∷ [] in
      let tail : List Lexeme = o ∷ (b ++ c ∷ []) in
      let parts : front ≡ q.lead ++ (q.more ++ tail) = append_assoc a (o ∷ b) (c ∷ []) ∙ ap (λ (v : List Lexeme). v ++ tail) q.parts ∙ append_assoc q.lead q.more tail in
      record {
        lead = q.lead;
        more = q.more ++ tail;
        x = q.x;
        parts = parts;
        filled = q.filled;
        low = omega (arith, q.low);
        begins = q.begins;
        reads = q.reads;
        goes = λ n d rest enough low.
            let after : List Lexeme = o ∷ (b ++ c ∷ rest) in
            let same : (q.more ++ tail) ++ rest ≡ q.more ++ after = append_assoc q.more tail rest ∙ ap (λ (v : List Lexeme). q.more ++ (o ∷ v)) (append_assoc b (c ∷ []) rest) in
            let g = q.goes n d after (omega (arith, enough, ap length same)) (omega (arith, low)) in
            let turns : ℕ = pred g.0 in
            let one : g.0 ≡ suc turns = turn_left g.0 (omega (arith, g.1)) in
            let read = rests_there b r w turns (d - 1) (c ∷ rest) (mark_ends c p.CloseBracket 11 rest f refl (omega arith)) (omega (arith, g.1, one)) (omega (arith, low)) in
            let first : ℕ = first_of q.lead in
            let begins : first_of front ≡ first = first_lead front q.lead (q.more ++ tail) parts q.filled in
            let past : past_of front ≡ c.span.past = past-append (a ++ o ∷ b) (c ∷ []) (omega arith) in
            let z : Got ExprTree = got_of front (untyped front (node.index l r)) rest in (
              turns,
              omega (arith, g.1, one, length-append b (c ∷ rest)),
              ap (λ (v : List Lexeme). suffix_at env n d first (got_of q.lead q.x v)) same ∙ g.2 ∙ ap (λ (v : ℕ). suffix_at env v d first (got_of a l after)) one
                  ∙ suffix_indexes turns d first (got_of a l after) (got_of b r (c ∷ rest)) z o (b ++ c ∷ rest) refl e read
                  (wanted_there m.CloseBracket c rest (λ c rest. made d (spelled first c.span.past (node.index l r)) c.span.past rest) f ∙ made_there d (node.index l r) front rest first c.span.past begins past low),
            );
      }

  member_low : (arrow : Bool) (x : ExprTree) (n : ℕ) → kind_path (with_member arrow x n) ≡ expr_path x
  member_low false x n = refl
  member_low true x n = refl

  member_step : (arrow : Bool) (a : List Lexeme) (l : ExprTree) (o w : Lexeme) (v : ℕ) → Suffixes a l → Is (selector arrow) o → IsName v w → Suffixes (a ++ o ∷ w ∷ []) (untyped (a ++ o ∷ w ∷ []) (with_member arrow l v))
  member_step arrow a l o w v q e f =
      let front : List Lexeme = a ++ o ∷ w ∷ [] in
      let tail : List Lexeme = o ∷ w ∷ [] in
      let parts : front ≡ q.lead ++ (q.more ++ tail) = ap (λ (v : List Lexeme). v ++ tail) q.parts ∙ append_assoc q.lead q.more tail in
      let height = member_low arrow l v in
      record {
        lead = q.lead;
        more = q.more ++ tail;
        x = q.x;
        parts = parts;
        filled = q.filled;
        low = omega (arith, q.low, height);
        begins = q.begins;
        reads = q.reads;
        goes = λ n d rest enough low.
            let after : List Lexeme = o ∷ w ∷ rest in
            let same : (q.more ++ tail) ++ rest ≡ q.more ++ after = append_assoc q.more tail rest in
            let g = q.goes n d after (omega (arith, enough, ap length same)) (omega (arith, low, height)) in
            let m : ℕ = pred g.0 in
            let one : g.0 ≡ suc m = turn_left g.0 (omega (arith, g.1)) in
            let first : ℕ = first_of q.lead in
            let begins : first_of front ≡ first = first_lead front q.lead (q.more ++ tail) parts q.filled in
            let past : past_of front ≡ w.span.past = past-append a tail (omega arith) in
            let z : Got ExprTree = got_of front (untyped front (with_member arrow l v)) rest in
            let go : ℕ → List Lexeme → Option (Got ExprTree) = λ u rest. made d (spelled first w.span.past (with_member arrow l u)) w.span.past rest in (
              m,
              omega (arith, g.1, one),
              ap (λ (v : List Lexeme). suffix_at env n d first (got_of q.lead q.x v)) same ∙ g.2 ∙ ap (λ (v : ℕ). suffix_at env v d first (got_of a l after)) one
                  ∙ suffix_members m d first arrow (got_of a l after) z o (w ∷ rest) refl e (ap (reading.named_by go rest) f ∙ made_there d (with_member arrow l v) front rest first w.span.past begins past low),
            );
      }

  postfix_there : (front : List Lexeme) (t : ExprTree) → Suffixes front t → (n d : ℕ) (rest : List Lexeme) → Ends 0 rest → 16 * length (front ++ rest) + 2 ≤ n → expr_path t ≤ d → unary_at env n d (front ++ rest) ≡ Some (got_of front t rest)
  postfix_there front t q zero d rest ends enough low = absurd (omega arith)
  postfix_there front t q (suc n) d rest ends enough low =
      let parts : front ++ rest ≡ q.lead ++ (q.more ++ rest) = ap (λ (v : List Lexeme). v ++ rest) q.parts ∙ append_assoc q.lead q.more rest in
      let lengths = ap length parts in
      let filled = q.filled in
      let read = q.reads n d (q.more ++ rest) (omega (arith, enough, lengths)) (omega (arith, q.low, low)) in
      let g = q.goes n d rest (omega (arith, enough, lengths, filled, length-append q.lead (q.more ++ rest))) low in
      ap (unary_at env (suc n) d) parts ∙ unary_goes n d q.lead (q.more ++ rest) filled q.begins
      ∙ ap (λ (r : Option (Got ExprTree)). r >>= suffix_at env n d (first_of q.lead)) read ∙ g.2 ∙ suffix_ends g.0 d (first_of q.lead) (got_of front t rest) rest (omega (arith, g.1)) refl ends

  prefix_low : (f : Rattle.cx_cexpr.specs.declared.kinds.Prefix.Prefix) (x : ExprTree) → kind_path (with_prefix f x) ≡ expr_path x
  prefix_low (Rattle.cx_cexpr.specs.declared.kinds.Prefix.TheVariants.Number op) x = refl
  prefix_low Rattle.cx_cexpr.specs.declared.kinds.Prefix.TheVariants.Deref x = refl
  prefix_low Rattle.cx_cexpr.specs.declared.kinds.Prefix.TheVariants.Address x = refl

  prefix_goes : (n d : ℕ) (o : Lexeme) (mark : Punctuator) (ts rest : List Lexeme) (x : ExprTree) (f : Rattle.cx_cexpr.specs.declared.kinds.Prefix.Prefix) → Is mark o → Rattle.cx_cexpr.specs.Kinds.prefix_of mark ≡ h.Prefix f → 0 < length ts
      → cast_at env n (d - 1) (ts ++ rest) ≡ Some (got_of ts x rest) → expr_path (untyped (o ∷ ts) (with_prefix f x)) ≤ d → unary_at env (suc n) d (o ∷ (ts ++ rest)) ≡ Some (got_of (o ∷ ts) (untyped (o ∷ ts) (with_prefix f x)) rest)
  unfolding cond_at
  prefix_goes n d o mark ts rest x f is e filled read low =
      ap (λ (v : LexemeKind). dispatch n d o (ts ++ rest) (head_of v)) is ∙ ap (dispatch n d o (ts ++ rest)) e
      ∙ ap (λ (b : Bool). cond b None (cast_at env n (d - 1) (ts ++ rest) >>= prefixed_at d o.span.first f)) (not_zero d (omega (arith, low)))
      ∙ ap (λ (r : Option (Got ExprTree)). r >>= prefixed_at d o.span.first f) read ∙ made_there d (with_prefix f x) (o ∷ ts) rest o.span.first (past_of ts) refl (past-append (o ∷ []) ts filled) low

-- ---- each expression

module _ (env : Known) (few : Few env) where
  size_there : (n d : ℕ) (o m' c : Lexeme) (os rest : List Lexeme) (t : TypeTree) → IsWord k.SizeOf o → Is p.OpenParen m' → IsType env os t → Is p.CloseParen c → 2 ≤ n → expr_path (untyped (o ∷ m' ∷ os ++ c ∷ []) (node.size_of t)) ≤ d
      → unary_at env n d ((o ∷ m' ∷ os ++ c ∷ []) ++ rest) ≡ Some (got_of (o ∷ m' ∷ os ++ c ∷ []) (untyped (o ∷ m' ∷ os ++ c ∷ []) (node.size_of t)) rest)
  size_there zero d o m' c os rest t is opens h close enough low = absurd (omega arith)
  size_there (suc zero) d o m' c os rest t is opens h close enough low = absurd (omega arith)
  size_there (suc (suc n)) d o m' c os rest t is opens h close enough low =
      let front : List Lexeme = o ∷ m' ∷ os ++ c ∷ [] in
      let parts : (os ++ c ∷ []) ++ rest ≡ os ++ c ∷ rest = append_assoc os (c ∷ []) rest in
      let past : past_of front ≡ c.span.past = past-append (o ∷ m' ∷ os) (c ∷ []) (omega arith) in
      ap (λ (v : List Lexeme). unary_at env (suc (suc n)) d (o ∷ m' ∷ v)) parts
      ∙ size_type_goes env n d o (m' ∷ (os ++ c ∷ rest)) (record { tree = t; past = c.span.past; rest = rest }) (got_of front (untyped front (node.size_of t)) rest) is
      (opens_so env m' (os ++ c ∷ rest) opens (begins-append env os (c ∷ rest) (type_begins h))) (enclosed_there env few (d - 1) m' c rest opens h close (omega (arith, low)))
      (made_there d (node.size_of t) front rest o.span.first c.span.past refl past low)

  cast_there_by : (n d : ℕ) (o c : Lexeme) (a b rest : List Lexeme) (t : TypeTree) (x : ExprTree) → Is p.OpenParen o → IsType env a t → Is p.CloseParen c → 0 < length b → cast_at env n (d - 1) (b ++ rest) ≡ Some (got_of b x rest) → expr_path (untyped (o ∷ a ++ c ∷ b) (node.cast t x)) ≤ d
      → cast_at env (suc n) d ((o ∷ a ++ c ∷ b) ++ rest) ≡ Some (got_of (o ∷ a ++ c ∷ b) (untyped (o ∷ a ++ c ∷ b) (node.cast t x)) rest)
  cast_there_by n d o c a b rest t x opens h close filled read low =
      let front : List Lexeme = o ∷ a ++ c ∷ b in
      let parts : (a ++ c ∷ b) ++ rest ≡ a ++ c ∷ (b ++ rest) = append_assoc a (c ∷ b) rest in
      let past : past_of front ≡ past_of b = past-append (o ∷ a) (c ∷ b) (omega arith) ∙ past-append (c ∷ []) b filled in
      ap (λ (v : List Lexeme). cast_at env (suc n) d (o ∷ v)) parts
      ∙ cast_goes env n d o (a ++ c ∷ (b ++ rest)) (record { tree = t; past = c.span.past; rest = b ++ rest }) (got_of b x rest) (got_of front (untyped front (node.cast t x)) rest)
      (opens_so env o (a ++ c ∷ (b ++ rest)) opens (begins-append env a (c ∷ (b ++ rest)) (type_begins h))) (enclosed_there env few (d - 1) o c (b ++ rest) opens h close (omega (arith, low))) read
      (made_there d (node.cast t x) front rest o.span.first (past_of b) refl past low)

  mutual
    conds : {front : List Lexeme} {t : ExprTree} → IsCond env front t → Rests env front t
    conds (unconditional {os = front} {x = t} h) = only_step env front t (climbs h)
    conds (conditional {a = a} {c = b} {d = c} {x = x} {y = y} {z = z} q o f is g colon h) = choose_step env a b c x y z q o (climbs f) is (conds g) colon (conds h) (cond_filled h)

    climbs : {level : ℕ} {front : List Lexeme} {t : ExprTree} → IsBinary env level front t → Climbs env level front t
    climbs (operand {os = front} {x = t} h) = operand_step env front t h (λ n d rest ends enough low. cast_again h n d rest ends enough low)
    climbs (lower {n = level} {os = front} {x = t} h) = lower_step env level front t (climbs h)
    climbs (joined {n = level} {a = a} {c = b} {x = l} {y = r} o mark f h is e p) = join_step env level a b l r o f (climbs h) (climbs p) (binary_filled p) (is_op o.kind mark (suc level, f) is e)

    cast_again : {front : List Lexeme} {t : ExprTree} → IsCast env front t → (n d : ℕ) (rest : List Lexeme) → Ends 0 rest → 16 * length (front ++ rest) + 3 ≤ n → expr_path t ≤ d → cast_at env n d (front ++ rest) ≡ Some (got_of front t rest)
    cast_again h zero d rest ends enough low = absurd (omega arith)
    cast_again (no_cast {os = front} h) (suc n) d rest ends enough low =
        no_cast_goes env n d (front ++ rest) (let filled = unary_filled h in omega (arith, filled, length-append front rest)) (unary_no_cast h rest) ∙ unary_again h n d rest ends (omega (arith, enough)) low
    cast_again (casted {a = a} {c = b} {t = t} {x = x} o c e q f h) (suc n) d rest ends enough low =
        let lengths = ap length (append_assoc a (c ∷ b) rest) in
        let sizes = length-append a (c ∷ (b ++ rest)) in
        cast_there_by n d o c a b rest t x e q f (cast_filled h) (cast_again h n (d - 1) rest ends (omega (arith, enough, lengths, sizes)) (omega (arith, low))) low

    unary_again : {front : List Lexeme} {t : ExprTree} → IsUnary env front t → (n d : ℕ) (rest : List Lexeme) → Ends 0 rest → 16 * length (front ++ rest) + 2 ≤ n → expr_path t ≤ d → unary_at env n d (front ++ rest) ≡ Some (got_of front t rest)
    unary_again (no_prefix {os = front} {x = t} h) n d rest ends enough low = postfix_there env front t (suffixes h) n d rest ends enough low
    unary_again (prefixed {os = ts} {x = x} o mark y is h e) n d rest ends enough low =
        let q = prefixed_is mark x y e in
        let one : n ≡ suc (pred n) = turn_left n (omega (arith, enough)) in
        let height : kind_path y ≡ expr_path x = ap kind_path (sym q.2) ∙ prefix_low env q.0 x in
        let read = cast_again h (pred n) (d - 1) rest ends (omega (arith, enough, one)) (omega (arith, low, height)) in
        ap (λ (v : ℕ). unary_at env v d (o ∷ (ts ++ rest))) one
        ∙ prefix_goes env (pred n) d o mark ts rest x q.0 is q.1 (cast_filled h) read (subst (λ (v : ExprKindTree). expr_path (untyped (o ∷ ts) v) ≤ d) (sym q.2) low)
        ∙ ap (λ (v : ExprKindTree). Some (got_of (o ∷ ts) (untyped (o ∷ ts) v) rest)) q.2
    unary_again (size_of_value {os = ts} {x = x} o is h) zero d rest ends enough low = absurd (omega arith)
    unary_again (size_of_value {os = ts} {x = x} o is h) (suc zero) d rest ends enough low = absurd (omega arith)
    unary_again (size_of_value {os = ts} {x = x} o is h) (suc (suc n)) d rest ends enough low =
        size_value_goes env n d o (ts ++ rest) (got_of ts x rest) (got_of (o ∷ ts) (untyped (o ∷ ts) (node.size_of_expr x)) rest) is (unary_no_cast h rest)
        (unary_again h n (d - 1) rest ends (omega (arith, enough)) (omega (arith, low)))
        (made_there d (node.size_of_expr x) (o ∷ ts) rest o.span.first (past_of ts) refl (past-append (o ∷ []) ts (unary_filled h)) low)
        (omega (arith, low))
    unary_again (size_of_type {os = os} {t = t} o m' c is opens h close) n d rest ends enough low = size_there n d o m' c os rest t is opens h close (omega (arith, enough)) low

    suffixes : {front : List Lexeme} {t : ExprTree} → IsPostfix env front t → Suffixes env front t
    suffixes (no_suffix {os = front} {x = t} h) = primary_step env front t h (λ n d rest enough low. primary_again h n d rest enough low)
    suffixes (indexed {a = a} {c = b} {x = l} {y = r} o c h e p f) = index_step env a b l r o c (suffixes h) e (conds p) f
    suffixes (member_of {a = a} {x = l} o w v h e f) = member_step env false a l o w v (suffixes h) e f
    suffixes (member_at {a = a} {x = l} o w v h e f) = member_step env true a l o w v (suffixes h) e f

    primary_again : {front : List Lexeme} {t : ExprTree} → IsPrimary env front t → (n d : ℕ) (rest : List Lexeme) → 16 * length (front ++ rest) + 1 ≤ n → expr_path t ≤ d → primary_at env n d (front ++ rest) ≡ Some (got_of front t rest)
    primary_again h zero d rest enough low = absurd (omega arith)
    primary_again (named o v e other) (suc n) d rest enough low = leaf_there env n d o rest (leaf.Name v) (node.name v) (name_leaf o.kind v e) (ap (λ (b : Bool). cond b None (made d (spelled o.span.first o.span.past (node.name v)) o.span.past rest)) other) low
    primary_again (number o v t e) (suc n) d rest enough low = leaf_there env n d o rest (leaf.Number v t) (node.num v t) (ap leaf_of e) refl low
    primary_again (inside {os = front} {x = t} o c e h f) (suc n) d rest enough low =
        let parts : (front ++ c ∷ []) ++ rest ≡ front ++ c ∷ rest = append_assoc front (c ∷ []) rest in
        let read = rests_there env front t (conds h) n d (c ∷ rest) (mark_ends c p.CloseParen 11 rest f refl (omega arith)) (omega (arith, enough, ap length parts)) low in
        let past : past_of (o ∷ front ++ c ∷ []) ≡ c.span.past = past-append (o ∷ front) (c ∷ []) (omega arith) in
        ap (λ (v : List Lexeme). primary_at env (suc n) d (o ∷ v)) parts ∙ inside_goes env n d o c (front ++ c ∷ rest) rest (got_of front t (c ∷ rest)) e read refl f
        ∙ ap (λ (v : ℕ). Some (record { tree = t; past = v; rest = rest })) (sym past)

  -- a derived expression is read, where what follows cannot go on
  pub cond_there : {front : List Lexeme} {t : ExprTree} → IsCond env front t → (n d : ℕ) (rest : List Lexeme) → Ends 11 rest → 16 * length (front ++ rest) + 5 ≤ n → expr_path t ≤ d → cond_at env n d (front ++ rest) ≡ Some (got_of front t rest)
  cond_there {front} {t} h n d rest ends enough low = rests_there env front t (conds h) n d rest ends enough low

  pub unary_there : {front : List Lexeme} {t : ExprTree} → IsUnary env front t → (n d : ℕ) (rest : List Lexeme) → Ends 0 rest → 16 * length (front ++ rest) + 2 ≤ n → expr_path t ≤ d → unary_at env n d (front ++ rest) ≡ Some (got_of front t rest)
  unary_there h n d rest ends enough low = unary_again h n d rest ends enough low

  pub cast_there : {front : List Lexeme} {t : ExprTree} → IsCast env front t → (n d : ℕ) (rest : List Lexeme) → Ends 0 rest → 16 * length (front ++ rest) + 3 ≤ n → expr_path t ≤ d → cast_at env n d (front ++ rest) ≡ Some (got_of front t rest)
  cast_there h n d rest ends enough low = cast_again h n d rest ends enough low

  -- the first operand of an expression, and that reading goes on from there to its end
  pub cond_parts : {front : List Lexeme} {t : ExprTree} → IsCond env front t → Rests env front t
  cond_parts h = conds h

  -- the same lexemes spell no other expression
  pub cond_only : {front : List Lexeme} {t u : ExprTree} → IsCond env front t → IsCond env front u → t ≡ u
  cond_only {front} {t} {u} h g =
      let n : ℕ = 16 * length (front ++ []) + 5 in
      let d : ℕ = max (expr_path t) (expr_path u) in
      let same : Some (got_of front t []) ≡ Some (got_of front u []) = sym (cond_there h n d [] tt (omega arith) (omega arith)) ∙ cond_there g n d [] tt (omega arith) (omega arith) in
      ap (λ (x : Got ExprTree). x.tree) (Rattle.std.proofs.lemmas.Option.same_Some (got_of front t []) (got_of front u []) same)
