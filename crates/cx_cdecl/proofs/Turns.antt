-- What a turn does, where one is left, and where none is.
use Rattle.std.proofs.Common.{◌≡◌, ℕ, zero, suc, ◌-◌, ◌<◌, Bool, true, map, List, [], ◌∷◌, ◌++◌, ◌&&◌, Option, Some, None, refl, arith}
use Rattle.cx_cword.specs.declared.lexeme.Lexeme.{Lexeme}
use Rattle.cx_cword.specs.Reading.{◌>>=◌, at_lexeme}
use Rattle.cx_ctree.specs.Types.{TypeTree, pointer, type_tree}
use Rattle.cx_ctree.specs.Path.{type_path}
use Rattle.std.specs.Prelude.{ℤ, nat_le}
use Rattle.cx_ctree.specs.Decls.{DeclTree, MemberTree, member_tree}
use Rattle.cx_ctree.specs.declared.decl.Member.{Member}
use Rattle.std.proofs.lemmas.List.{map-append}
use Rattle.cx_cname.specs.Known.{Known, is_complete}
use Rattle.cx_cexpr.specs.Reading.{skip_at}
use Rattle.cx_cword.specs.declared.mark.Mark.{Mark}
use Rattle.cx_cword.specs.declared.mark.Mark.TheVariants as m
use Rattle.cx_cdecl.specs.Declarations.{Beside, nothing_said}
use Rattle.cx_cdecl.specs.Kinds.{also_says, is_attribute, is_after, bracket_of}
use Rattle.cx_cdecl.specs.Reading.{if_true, balanced_by, balanced_at, attributes_at, beside_by, beside_at, after_by, after_at, choose, pointers_at, sizes_by, size_at, sizes_at, enumerator_at, enumerators_by, enumerators_at, object_at, member_names_at, specs_after, plain_at, listing_at, specifier_by, listed_by, enumerators_in, line_names, members_by, specs_at, specifier_at, members_at, line_at, Params, also_param, param_at, params_at, init_declarator_at, init_declarators_at}
use Rattle.cx_cword.specs.Marks.{Lacks}

pub balanced_turn : (n : ℕ) (os : List Lexeme) → 0 < n → balanced_at n os ≡ at_lexeme os (Some os) (λ o rest. balanced_by (balanced_at (n - 1)) o rest (bracket_of o.kind))
unfolding balanced_at
balanced_turn zero os h = absurd (omega arith)
balanced_turn (suc n) os h = let e : suc n - 1 ≡ n = omega arith in rw e refl

pub balanced_none : (n : ℕ) (os : List Lexeme) → n ≡ 0 → balanced_at n os ≡ None
unfolding balanced_at
balanced_none n os h = rw h refl

pub beside_end : (turns : ℕ) (open_ : Bool) (n : ℕ) (s : Beside) (os : List Lexeme) → os ≡ [] → beside_at turns open_ n s os ≡ record { tree = s; rest = os }
unfolding beside_at
beside_end turns open_ zero s os h = refl
beside_end turns open_ (suc n) s os h = rw h refl

pub beside_turn : (turns : ℕ) (open_ : Bool) (n : ℕ) (s : Beside) (o : Lexeme) (os : List Lexeme) → 0 < n → beside_at turns open_ n s (o ∷ os) ≡ beside_by (beside_at turns open_ (n - 1)) (record { tree = s; rest = o ∷ os }) (also_says o.kind s) (if_true (open_ && is_attribute o.kind) (attributes_at turns os)) os
unfolding beside_at
beside_turn turns open_ zero s o os h = absurd (omega arith)
beside_turn turns open_ (suc n) s o os h = let e : suc n - 1 ≡ n = omega arith in rw e refl

pub beside_none : (turns : ℕ) (open_ : Bool) (n : ℕ) (s : Beside) (os : List Lexeme) → n ≡ 0 → beside_at turns open_ n s os ≡ record { tree = s; rest = os }
unfolding beside_at
beside_none turns open_ n s os h = rw h refl

pub after_end : (turns n : ℕ) (os : List Lexeme) → os ≡ [] → after_at turns n os ≡ os
unfolding after_at
after_end turns zero os h = refl
after_end turns (suc n) os h = rw h refl

pub after_turn : (turns n : ℕ) (o : Lexeme) (os : List Lexeme) → 0 < n → after_at turns n (o ∷ os) ≡ after_by (after_at turns (n - 1)) (o ∷ os) (if_true (is_after o.kind) (attributes_at turns os))
unfolding after_at
after_turn turns zero o os h = absurd (omega arith)
after_turn turns (suc n) o os h = let e : suc n - 1 ≡ n = omega arith in rw e refl

pub after_none : (turns n : ℕ) (os : List Lexeme) → n ≡ 0 → after_at turns n os ≡ os
unfolding after_at
after_none turns n os h = rw h refl

pub pointers_turn : (n d : ℕ) (t : TypeTree) (os : List Lexeme) → 0 < n → pointers_at n d t os ≡ if_true (nat_le (type_path t) d) (choose m.Star os (Some (record { tree = t; rest = os })) (λ rest. pointers_at (n - 1) d (pointer t) (skip_at 0 rest).rest))
unfolding pointers_at
pointers_turn zero d t os h = absurd (omega arith)
pointers_turn (suc n) d t os h = let e : suc n - 1 ≡ n = omega arith in rw e refl

pub pointers_none : (n d : ℕ) (t : TypeTree) (os : List Lexeme) → n ≡ 0 → pointers_at n d t os ≡ None
unfolding pointers_at
pointers_none n d t os h = rw h refl

pub sizes_turn : (turns : ℕ) (env : Known) (d : ℕ) (ns : List ℕ) (os : List Lexeme) → 0 < d → sizes_at turns env d ns os ≡ sizes_by (λ n rest. sizes_at turns env (d - 1) (ns ++ n ∷ []) rest) (record { tree = ns; rest = os }) (size_at turns env os)
unfolding sizes_at
sizes_turn turns env zero ns os h = absurd (omega arith)
sizes_turn turns env (suc d) ns os h = let e : suc d - 1 ≡ d = omega arith in rw e refl

pub sizes_none : (turns : ℕ) (env : Known) (d : ℕ) (ns : List ℕ) (os : List Lexeme) → d ≡ 0 → sizes_at turns env d ns os ≡ record { tree = ns; rest = os }
unfolding sizes_at
sizes_none turns env d ns os h = rw h refl

-- without the mark
pub chosen_not : {A : Type 0} (mark : Mark) (os : List Lexeme) (other : Option A) (go : List Lexeme → Option A) → Lacks mark os → choose mark os other go ≡ other
chosen_not mark [] other go h = refl
chosen_not mark (o ∷ os) other go h = rw h refl

pub enumerators_turn : (turns : ℕ) (earlier : List DeclTree) (n : ℕ) (env : Known) (next : ℤ) (os : List Lexeme) → 0 < n → enumerators_at turns earlier n env next os ≡ (enumerator_at turns earlier env next os >>= enumerators_by (enumerators_at turns earlier (n - 1)))
unfolding enumerators_at
enumerators_turn turns earlier zero env next os h = absurd (omega arith)
enumerators_turn turns earlier (suc n) env next os h = let e : suc n - 1 ≡ n = omega arith in rw e refl

pub enumerators_none : (turns : ℕ) (earlier : List DeclTree) (n : ℕ) (env : Known) (next : ℤ) (os : List Lexeme) → n ≡ 0 → enumerators_at turns earlier n env next os ≡ None
unfolding enumerators_at
enumerators_none turns earlier n env next os h = rw h refl

pub member_names_turn : (turns : ℕ) (env : Known) (t : TypeTree) (n : ℕ) (ms : List MemberTree) (os : List Lexeme) → 0 < n → member_names_at turns env t n ms os
    ≡ (object_at turns env t os >>= λ x. if_true (is_complete env x.tree.ctype)
    (choose m.Comma x.rest (Some (record { tree = ms ++ record { name = x.tree.name; ctype = x.tree.ctype } ∷ []; rest = x.rest }))
    (λ rest. member_names_at turns env t (n - 1) (ms ++ record { name = x.tree.name; ctype = x.tree.ctype } ∷ []) rest)))
unfolding member_names_at
member_names_turn turns env t zero ms os h = absurd (omega arith)
member_names_turn turns env t (suc n) ms os h = let e : suc n - 1 ≡ n = omega arith in rw e refl

pub member_names_none : (turns : ℕ) (env : Known) (t : TypeTree) (n : ℕ) (ms : List MemberTree) (os : List Lexeme) → n ≡ 0 → member_names_at turns env t n ms os ≡ None
unfolding member_names_at
member_names_none turns env t n ms os h = rw h refl

pub member_names_also : (ms : List Member) (m : Member) → map member_tree (ms ++ m ∷ []) ≡ map member_tree ms ++ record { name = m.name; ctype = type_tree m.ctype } ∷ []
member_names_also ms m = map-append member_tree ms (m ∷ [])

module _ (turns : ℕ) (earlier : List DeclTree) where
  pub specs_turn : (n : ℕ) (env : Known) (os : List Lexeme) → 0 < n → specs_at turns earlier n env os ≡ (specifier_at turns earlier (n - 1) env (beside_at turns true turns nothing_said os).rest >>= specs_after turns (beside_at turns true turns nothing_said os))
  unfolding specs_at
  specs_turn zero env os h = absurd (omega arith)
  specs_turn (suc n) env os h = let e : suc n - 1 ≡ n = omega arith in rw e refl

  pub specs_none : (n : ℕ) (env : Known) (os : List Lexeme) → n ≡ 0 → specs_at turns earlier n env os ≡ None
  unfolding specs_at
  specs_none n env os h = rw h refl

  pub specifier_turn : (n : ℕ) (env : Known) (os : List Lexeme) → 0 < n → specifier_at turns earlier n env os
      ≡ specifier_by (λ x. listed_by (members_at turns earlier (n - 1)) (enumerators_in turns earlier) env x.tree.name x.rest x.tree.union_) (plain_at env os) (listing_at os)
  unfolding specs_at
  specifier_turn zero env os h = absurd (omega arith)
  specifier_turn (suc n) env os h = let e : suc n - 1 ≡ n = omega arith in rw e refl

  pub specifier_none : (n : ℕ) (env : Known) (os : List Lexeme) → n ≡ 0 → specifier_at turns earlier n env os ≡ None
  unfolding specs_at
  specifier_none n env os h = rw h refl

  pub members_turn : (n : ℕ) (env : Known) (ms : List MemberTree) (os : List Lexeme) → 0 < n → members_at turns earlier n env ms os ≡ (line_at turns earlier (n - 1) env ms os >>= members_by (members_at turns earlier (n - 1)))
  unfolding specs_at
  members_turn zero env ms os h = absurd (omega arith)
  members_turn (suc n) env ms os h = let e : suc n - 1 ≡ n = omega arith in rw e refl

  pub members_none : (n : ℕ) (env : Known) (ms : List MemberTree) (os : List Lexeme) → n ≡ 0 → members_at turns earlier n env ms os ≡ None
  unfolding specs_at
  members_none n env ms os h = rw h refl

  pub line_turn : (n : ℕ) (env : Known) (ms : List MemberTree) (os : List Lexeme) → 0 < n → line_at turns earlier n env ms os ≡ (specs_at turns earlier (n - 1) env os >>= line_names turns ms)
  unfolding specs_at
  line_turn zero env ms os h = absurd (omega arith)
  line_turn (suc n) env ms os h = let e : suc n - 1 ≡ n = omega arith in rw e refl

  pub line_none : (n : ℕ) (env : Known) (ms : List MemberTree) (os : List Lexeme) → n ≡ 0 → line_at turns earlier n env ms os ≡ None
  unfolding specs_at
  line_none n env ms os h = rw h refl

pub params_turn : (turns n : ℕ) (env : Known) (qs : Params) (os : List Lexeme) → 0 < n → params_at turns n env qs os
    ≡ (param_at turns env os >>= λ q. choose m.Comma q.rest (Some (record { tree = also_param qs q.tree; known = q.known; rest = q.rest })) (λ rest. params_at turns (n - 1) q.known (also_param qs q.tree) rest))
unfolding params_at
params_turn turns zero env qs os h = absurd (omega arith)
params_turn turns (suc n) env qs os h = let e : suc n - 1 ≡ n = omega arith in rw e refl

pub params_none : (turns n : ℕ) (env : Known) (qs : Params) (os : List Lexeme) → n ≡ 0 → params_at turns n env qs os ≡ None
unfolding params_at
params_none turns n env qs os h = rw h refl

pub init_declarators_turn : (turns : ℕ) (earlier : List DeclTree) (t : TypeTree) (typedef_ : Bool) (n : ℕ) (env : Known) (ds : List DeclTree) (os : List Lexeme) → 0 < n → init_declarators_at turns earlier t typedef_ n env ds os
    ≡ (init_declarator_at turns (earlier ++ ds) env t typedef_ os >>= λ x.
    choose m.Comma x.rest (Some (record { tree = ds ++ x.tree ∷ []; known = x.known; rest = x.rest })) (λ rest. init_declarators_at turns earlier t typedef_ (n - 1) x.known (ds ++ x.tree ∷ []) rest))
unfolding init_declarators_at
init_declarators_turn turns earlier t typedef_ zero env ds os h = absurd (omega arith)
init_declarators_turn turns earlier t typedef_ (suc n) env ds os h = let e : suc n - 1 ≡ n = omega arith in rw e refl

pub init_declarators_none : (turns : ℕ) (earlier : List DeclTree) (t : TypeTree) (typedef_ : Bool) (n : ℕ) (env : Known) (ds : List DeclTree) (os : List Lexeme) → n ≡ 0 → init_declarators_at turns earlier t typedef_ n env ds os ≡ None
unfolding init_declarators_at
init_declarators_none turns earlier t typedef_ n env ds os h = rw h refl
