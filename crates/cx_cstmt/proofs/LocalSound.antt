-- What is read as a declaration of a block is spelled so.
use Rattle.std.proofs.Common.{◌≡◌, ℕ, zero, suc, ◌-◌, Bool, true, false, cond, not, List, [], ◌∷◌, ◌++◌, Option, Some, None, refl, sym, ◌∙◌, subst, inl, inr}
use Rattle.std.specs.Prelude.{◌&&◌}
use Rattle.std.proofs.lemmas.Option.{same_Some}
use Rattle.cx_ctree.specs.Types.{TypeTree}
use Rattle.cx_ctree.specs.Exprs.{RhsTree}
use Rattle.cx_ctree.specs.Stmts.{StmtTree, stmt, declare, StmtTrees, no_stmt, also_stmt}
use Rattle.cx_ctree.specs.Decls.{DeclTree}
use Rattle.cx_cword.specs.declared.lexeme.Lexeme.{Lexeme}
use Rattle.cx_cword.specs.Reading.{◌>>=◌}
use Rattle.cx_cname.specs.Known.{Known, names_type}
use Rattle.cx_cexpr.proofs.Steps.{bind_some, pick}
use Rattle.cx_ceffect.specs.Reading.{rhs_at}
use Rattle.cx_ceffect.proofs.Sound.{rhs_sound}
use Rattle.cx_cdecl.specs.Declarations.{AreSpecs}
use Rattle.cx_cdecl.specs.Reading.{Named, Specs, object_at, plain_specs_at}
use Rattle.cx_cdecl.specs.Reading as decl
use Rattle.cx_cdecl.proofs.DeclaratorSound.{ObjectFront, object_sound}
use Rattle.cx_cdecl.proofs.SpecsSound.{plain_specs_sound, plain_unlisted}
use Rattle.cx_cword.specs.declared.mark.Mark.TheVariants as m
use Rattle.cx_cstmt.specs.Statements.{IsVariable, variable, initialised, AreVariables, last_variable, also_variable, IsLocal, local, all_of}
use Rattle.cx_cstmt.specs.Reading.{Got, listed, next, push, declared_at, variable_at, variables_at, is_plain, local_by, local_at}
use Rattle.cx_cstmt.proofs.Steps.{made_some, Marked, next_some, next_cases, two_parts, both_parts, all_push, all_last}

-- ---- variables

pub record FoundVariable (env : Known) (t : TypeTree) (whole : List Lexeme) (g : Got StmtTree) : Type 0 where
  pub front : List Lexeme
  pub parts : whole ≡ front ++ g.rest
  pub so : IsVariable env t front g.tree
  pub same : env ≡ g.known

module _ (env : Known) where
  plain_found : (d : ℕ) (t : TypeTree) (whole : List Lexeme) (x : decl.Got Named) (g : Got StmtTree) → ObjectFront env t whole x → names_type env x.tree.name ≡ false → declared_at d env x.tree None x.rest ≡ Some g → FoundVariable env t whole g
  plain_found d t whole x g f off e =
      let q = made_some d (stmt x.tree.lexeme.span (declare x.tree.name x.tree.ctype None)) env 0 x.rest g e in
      subst (FoundVariable env t whole) q.1 (record { front = f.front; parts = f.parts; so = variable f.so off; same = refl })

  value_found : (n d : ℕ) (t : TypeTree) (whole : List Lexeme) (x : decl.Got Named) (o : Lexeme) (ts : List Lexeme) (r : Rattle.cx_cexpr.specs.Reading.Got RhsTree) (g : Got StmtTree) → ObjectFront env t whole x → names_type env x.tree.name ≡ false
      → (mark : Marked m.Assign x.rest ts) → rhs_at env n (d - 1) ts ≡ Some r → declared_at d env x.tree (Some r.tree) r.rest ≡ Some g → FoundVariable env t whole g
  value_found n d t whole x o ts r g f off mark read e =
      let q = made_some d (stmt x.tree.lexeme.span (declare x.tree.name x.tree.ctype (Some r.tree))) env 0 r.rest g e in
      let v = rhs_sound env n (d - 1) ts r read in
      subst (FoundVariable env t whole) q.1 (record {
        front = f.front ++ mark.at ∷ v.front;
        parts = two_parts whole f.front x.rest ts v.front r.rest mark.at f.parts mark.parts v.parts;
        so = initialised mark.at f.so off mark.is v.spelled_so;
        same = refl;
      })

  abbrev value_after : ℕ → ℕ → Named → Lexeme → List Lexeme → Option (Got StmtTree)
  value_after n d x o rest = rhs_at env n (d - 1) rest >>= λ r. declared_at d env x (Some r.tree) r.rest

  named_step : (n d : ℕ) (t : TypeTree) (whole : List Lexeme) (x : decl.Got Named) (b : Bool) (g : Got StmtTree) → ObjectFront env t whole x → names_type env x.tree.name ≡ b
      → cond b None (next m.Assign x.rest (declared_at d env x.tree None x.rest) (value_after n d x.tree)) ≡ Some g → FoundVariable env t whole g
  named_step n d t whole x true g f is e = absurd cc
  named_step n d t whole x false g f is e = elim (next_cases m.Assign x.rest (declared_at d env x.tree None x.rest) (value_after n d x.tree) g e) [
    | inl a ↦ plain_found d t whole x g f is a.1
    | inr a ↦ let b = bind_some (rhs_at env n (d - 1) a.0) (λ r. declared_at d env x.tree (Some r.tree) r.rest) g a.2 in value_found n d t whole x a.1.at a.0 b.0 g f is a.1 b.1 b.2
  ]

  variable_sound : (n d : ℕ) (t : TypeTree) (os : List Lexeme) (g : Got StmtTree) → variable_at env n d t os ≡ Some g → FoundVariable env t os g
  unfolding variable_at
  variable_sound n d t os g e =
      let b = bind_some (object_at n env t os) (λ x. cond (names_type env x.tree.name) None (next m.Assign x.rest (declared_at d env x.tree None x.rest) (value_after n d x.tree))) g e in
      named_step n d t os b.0 (names_type env b.0.tree.name) g (object_sound n env t os b.0 b.1) refl b.2

  -- variables after those statements that were read
  record FoundVariables (t : TypeTree) (all : StmtTrees) (whole : List Lexeme) (g : Got StmtTrees) : Type 0 where
    front : List Lexeme
    ss : StmtTrees
    parts : whole ≡ front ++ g.rest
    so : AreVariables env t front ss
    tree : all_of all ss ≡ g.tree
    same : env ≡ g.known

  variables_sound : (n d : ℕ) (t : TypeTree) (all : StmtTrees) (os : List Lexeme) (g : Got StmtTrees) → variables_at env n d t all os ≡ Some g → FoundVariables t all os g
  unfolding variables_at
  variables_sound zero d t all os g e = absurd cc
  variables_sound (suc n) d t all os g e =
      let b = bind_some (variable_at env n d t os) (λ s. next m.Comma s.rest (Some (listed (push all s.tree) env s.rest)) (λ o rest. variables_at env n d t (push all s.tree) rest)) g e in
      let f = variable_sound n d t os b.0 b.1 in
      elim (next_cases m.Comma b.0.rest (Some (listed (push all b.0.tree) env b.0.rest)) (λ o rest. variables_at env n d t (push all b.0.tree) rest) g b.2) [
        | inl a ↦ subst (FoundVariables t all os) (same_Some (listed (push all b.0.tree) env b.0.rest) g a.1) (record {
          front = f.front;
          ss = also_stmt b.0.tree no_stmt;
          parts = f.parts;
          so = last_variable f.so;
          tree = sym (all_last all b.0.tree);
          same = refl;
        })
        | inr a ↦
            let q = variables_sound n d t (push all b.0.tree) a.0 g a.2 in
            record {
              front = f.front ++ a.1.at ∷ q.front;
              ss = also_stmt b.0.tree q.ss;
              parts = two_parts os f.front b.0.rest a.0 q.front g.rest a.1.at f.parts a.1.parts q.parts;
              so = also_variable a.1.at f.so a.1.is q.so;
              tree = sym (all_push all b.0.tree q.ss) ∙ q.tree;
              same = q.same;
            }
      ]

-- ---- declarations

plain_parts : (a b c : Bool) → (not a && not b && not c) ≡ true → (a ≡ false) × (b ≡ false) × (c ≡ false)
plain_parts false false false e = (refl, refl, refl)
plain_parts true b c e = absurd cc
plain_parts false true c e = absurd cc
plain_parts false false true e = absurd cc

-- a declaration of a block, after those statements that were read
pub record FoundLocal (earlier : List DeclTree) (env : Known) (all : StmtTrees) (whole : List Lexeme) (g : Got StmtTrees) : Type 0 where
  pub front : List Lexeme
  pub ss : StmtTrees
  pub parts : whole ≡ front ++ g.rest
  pub so : IsLocal earlier env front ss g.known
  pub tree : all_of all ss ≡ g.tree

pub local_sound : (earlier : List DeclTree) (env : Known) (n d : ℕ) (all : StmtTrees) (os : List Lexeme) (g : Got StmtTrees) → local_at env n d all os ≡ Some g → FoundLocal earlier env all os g
unfolding local_at
local_sound earlier env n d all os g e =
    let b = bind_some (plain_specs_at n env os) (local_by n d all) g e in
    let s = b.0 in
    let f = plain_specs_sound n earlier env os s b.1 in
    let go : Got StmtTrees → Option (Got StmtTrees) = λ x. next m.Semicolon x.rest None (λ c rest. Some (listed x.tree x.known rest)) in
    let p = Rattle.cx_cexpr.proofs.Steps.test_some (is_plain s.tree.said) (variables_at s.known n d s.tree.ctype all s.rest >>= go) g b.2 in
    let w = plain_parts s.tree.said.attributed s.tree.said.typedef_ s.tree.said.linked p.0 in
    let v = bind_some (variables_at s.known n d s.tree.ctype all s.rest) go g p.1 in
    let q = variables_sound s.known n d s.tree.ctype all s.rest v.0 v.1 in
    let c = next_some m.Semicolon v.0.rest (λ c rest. Some (listed v.0.tree v.0.known rest)) g v.2 in
    subst (FoundLocal earlier env all os) (same_Some (listed v.0.tree v.0.known c.0) g c.2) (record {
      front = f.front ++ q.front ++ c.1.at ∷ [];
      ss = q.ss;
      parts = two_parts os (f.front ++ q.front) v.0.rest c.0 [] c.0 c.1.at (both_parts os f.front s.rest q.front v.0.rest f.parts q.parts) c.1.parts refl;
      so = subst (IsLocal earlier env (f.front ++ q.front ++ c.1.at ∷ []) q.ss) q.same
          (local c.1.at (subst (λ (l : Bool). AreSpecs earlier env f.front s.tree.ctype s.tree.said l s.known) (plain_unlisted n env os s b.1) f.so) w.0 w.1 w.2 q.so c.1.is);
      tree = q.tree;
    })
