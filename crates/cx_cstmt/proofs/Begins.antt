-- What an effect, a declaration of a block, a label and a statement begin with.
use Rattle.std.proofs.Common.{◌≡◌, ℕ, ◌≤◌, Bool, true, false, ◌&&◌, ◌||◌, List, [], ◌∷◌, ◌++◌, length, Option, Some, None, refl, sym, ap, ◌∙◌, subst, append_assoc, arith, inl, inr, ◌⊎◌}
use Rattle.std.specs.Prelude.{not, is_some}
use Rattle.cx_base.proofs.General.{and_false, or_true, true_both}
use Rattle.cx_ctree.specs.declared.expr.Binary.{Binary}
use Rattle.cx_ctree.specs.Types.{TypeTree}
use Rattle.cx_ctree.specs.Exprs.{ExprTree, CallTree, RhsTree, EffectTree}
use Rattle.cx_ctree.specs.Stmts.{StmtTree, StmtTrees}
use Rattle.cx_ctree.specs.Decls.{DeclTree}
use Rattle.cx_cword.specs.declared.word.Keyword.{Keyword}
use Rattle.cx_cword.specs.declared.word.Keyword.TheVariants as k
use Rattle.cx_cword.specs.declared.word.Punctuator.{Punctuator}
use Rattle.cx_cword.specs.declared.word.Punctuator.TheVariants as p
use Rattle.cx_cword.specs.declared.lexeme.Lexeme.{Lexeme}
use Rattle.cx_cword.specs.declared.lexeme.LexemeKind.{LexemeKind}
use Rattle.cx_cword.specs.declared.lexeme.LexemeKind.TheVariants as l
use Rattle.cx_cword.specs.Reading.{Is, IsWord, name_of}
use Rattle.cx_cname.specs.Known.{Known}
use Rattle.cx_cexpr.specs.declared.kinds.IntWord.{IntWord}
use Rattle.cx_cexpr.specs.Kinds.{word_of}
use Rattle.cx_cexpr.specs.Expressions.{tag_word, IsBase, void_word, int_words, type_name, tag_name, enum_name}
use Rattle.cx_cexpr.specs.Reading.{begins_by, begins_type}
use Rattle.cx_cexpr.proofs.Begins.{starts, starts_by, starts-append, primary_starts_so, apart, cond_begins, unary_begins, postfix_begins, base_begins}
use Rattle.cx_ceffect.specs.Effects.{stepped_by, IsCall, call_alone_of, call_with, IsRhs, rhs_value, rhs_call, rhs_cast, IsEffect, assigned, updated, stepped_after, stepped_before, called, evaluated, AreEffects, last_effect, also_effect}
use Rattle.cx_ceffect.specs.Kinds.{opens, calls}
use Rattle.cx_ceffect.proofs.Follows.{calls_so, calls_off}
use Rattle.cx_cdecl.specs.Declarations.{Beside, also_said, AreBeside, none_beside, word_beside, attributes_beside, ArePointers, no_star, also_star, IsObject, object_of, IsSpecifier, declared_before, new_tag, tag_members, members_alone, enum_named, enum_alone, AreSpecs, specs}
use Rattle.cx_cdecl.proofs.BesideThere.{attributes_there}
use Rattle.cx_cdecl.proofs.SpecsThere.{first_counted}
use Rattle.cx_cword.specs.declared.mark.Mark.TheVariants as m
use Rattle.cx_cstmt.specs.declared.kinds.Head.{Head}
use Rattle.cx_cstmt.specs.declared.kinds.Head.TheVariants as h
use Rattle.cx_cstmt.specs.Kinds.{head_of, label_of, is_label, begins_label, is_storage, begins_local}
use Rattle.cx_cstmt.specs.Statements.{IsVariable, variable, initialised, AreVariables, last_variable, also_variable, IsLocal, local, AreInitEffects, last_init, also_init, IsLabel, case_label, default_label, AreLabels, last_label, also_label, IsStmt, block_stmt, empty_stmt, effect_stmt, if_stmt, if_else_stmt, while_stmt, do_stmt, for_stmt, switch_stmt, break_stmt, continue_stmt, return_stmt}
use Rattle.cx_cstmt.proofs.Steps.{lacks}
use Rattle.cx_cstmt.proofs.Goes.{three_parts}
use Rattle.cx_cword.specs.Marks.{fits}

-- ---- effects

-- what the first lexeme begins as a statement
abbrev pub heads : List Lexeme → Head
heads [] = h.Other
heads (o ∷ os) = head_of o.kind

-- a lexeme that begins neither a declaration, nor a label, nor a statement by a word of its own, and ends nothing
record Acts (kind : LexemeKind) : Type 0 where
  head : head_of kind ≡ h.Other
  semicolon : fits m.Semicolon kind ≡ false
  paren : fits m.CloseParen kind ≡ false
  brace : fits m.CloseBrace kind ≡ false
  other : fits m.Else kind ≡ false
  label : is_label (label_of kind) ≡ false
  storage : is_storage kind ≡ false

starts_acts : (env : Known) (kind : LexemeKind) → starts_by env kind ≡ true → Acts kind
starts_acts env (l.Keyword k.SizeOf) e = record { head = refl; semicolon = refl; paren = refl; brace = refl; other = refl; label = refl; storage = refl }
starts_acts env (l.Keyword _) e = absurd cc
starts_acts env (l.Punctuator p.OpenBrace) e = absurd cc
starts_acts env (l.Punctuator p.CloseBrace) e = absurd cc
starts_acts env (l.Punctuator p.CloseParen) e = absurd cc
starts_acts env (l.Punctuator p.Semicolon) e = absurd cc
starts_acts env _ e = record { head = refl; semicolon = refl; paren = refl; brace = refl; other = refl; label = refl; storage = refl }

name_acts : (kind : LexemeKind) (n : ℕ) → name_of kind ≡ Some n → Acts kind
name_acts (l.Keyword w) n e = absurd cc
name_acts (l.Punctuator q) n e = absurd cc
name_acts _ n e = record { head = refl; semicolon = refl; paren = refl; brace = refl; other = refl; label = refl; storage = refl }

step_acts : (mark : Punctuator) (op : Binary) → stepped_by mark ≡ Some op → Acts (l.Punctuator mark)
step_acts p.Increment op e = record { head = refl; semicolon = refl; paren = refl; brace = refl; other = refl; label = refl; storage = refl }
step_acts p.Decrement op e = record { head = refl; semicolon = refl; paren = refl; brace = refl; other = refl; label = refl; storage = refl }
step_acts _ op e = absurd cc

-- the first lexeme begins an effect
pub record Acting (env : Known) (os : List Lexeme) : Type 0 where
  pub filled : 1 ≤ length os
  pub head : heads os ≡ h.Other
  pub semicolon : lacks m.Semicolon os ≡ true
  pub paren : lacks m.CloseParen os ≡ true
  pub brace : lacks m.CloseBrace os ≡ true
  pub other : lacks m.Else os ≡ true
  pub label : begins_label os ≡ false
  pub local : begins_local env os ≡ false

acting : (env : Known) (o : Lexeme) (os : List Lexeme) → Acts o.kind → begins_local env (o ∷ os) ≡ false → Acting env (o ∷ os)
acting env o os a e = record { filled = omega arith; head = a.head; semicolon = ap not a.semicolon; paren = ap not a.paren; brace = ap not a.brace; other = ap not a.other; label = a.label; local = e }

no_local : (env : Known) (o : Lexeme) (os : List Lexeme) → is_storage o.kind ≡ false → begins_by env o.kind ≡ false → begins_local env (o ∷ os) ≡ false
no_local env o os e f = ap (λ (b : Bool). (b || begins_by env o.kind) && not (calls (o ∷ os))) e ∙ ap (λ (b : Bool). (false || b) && not (calls (o ∷ os))) f

call_no_local : (env : Known) (o : Lexeme) (os : List Lexeme) → calls (o ∷ os) ≡ true → begins_local env (o ∷ os) ≡ false
call_no_local env o os e = ap (λ (b : Bool). (is_storage o.kind || begins_by env o.kind) && not b) e ∙ and_false (is_storage o.kind || begins_by env o.kind)

pub starts_acting : (env : Known) (a rest : List Lexeme) → starts env a ≡ true → Acting env (a ++ rest)
starts_acting env [] rest e = absurd cc
starts_acting env (o ∷ a) rest e = let q = starts_acts env o.kind e in acting env o (a ++ rest) q (no_local env o (a ++ rest) q.storage (apart env o.kind e))

call_acting : {env : Known} {a : List Lexeme} {x : CallTree} → IsCall env a x → (rest : List Lexeme) → Acting env (a ++ rest)
call_acting {env} (call_alone_of o w c n e f g) rest = acting env o (w ∷ c ∷ rest) (name_acts o.kind n e) (call_no_local env o (w ∷ c ∷ rest) (calls_so o w n (c ∷ rest) e f))
call_acting {env} (call_with {a = a} o w c n e f h g) rest = let os : List Lexeme = (a ++ c ∷ []) ++ rest in acting env o (w ∷ os) (name_acts o.kind n e) (call_no_local env o (w ∷ os) (calls_so o w n os e f))

stepped_acting : (env : Known) (o : Lexeme) (os : List Lexeme) (mark : Punctuator) (op : Binary) → Is mark o → stepped_by mark ≡ Some op → Acting env (o ∷ os)
stepped_acting env o os mark op e f =
    let q : Acts o.kind = subst Acts (sym e) (step_acts mark op f) in
    acting env o os q (no_local env o os q.storage (ap (begins_by env) e))

pub effect_acting : {env : Known} {a : List Lexeme} {x : EffectTree} → IsEffect env a x → (rest : List Lexeme) → Acting env (a ++ rest)
effect_acting {env} (assigned {a = a} {c = c} o h e r) rest = starts_acting env (a ++ o ∷ c) rest (starts-append env a (o ∷ c) (unary_begins h))
effect_acting {env} (updated {a = a} {c = c} o mark op h e f r) rest = starts_acting env (a ++ o ∷ c) rest (starts-append env a (o ∷ c) (unary_begins h))
effect_acting {env} (stepped_after {a = a} o mark op h e f) rest = starts_acting env (a ++ o ∷ []) rest (starts-append env a (o ∷ []) (primary_starts_so env a (postfix_begins h)))
effect_acting {env} (stepped_before {a = a} o mark op e f h) rest = stepped_acting env o (a ++ rest) mark op e f
effect_acting (called h) rest = call_acting h rest
effect_acting {env} (evaluated {a = a} h) rest = starts_acting env a rest (cond_begins h)

pub effects_acting : {env : Known} {a : List Lexeme} {es : List EffectTree} → AreEffects env a es → (rest : List Lexeme) → Acting env (a ++ rest)
effects_acting (last_effect h) rest = effect_acting h rest
effects_acting {env} (also_effect {a = a} {c = c} o h e hs) rest = subst (Acting env) (sym (append_assoc a (o ∷ c) rest)) (effect_acting h (o ∷ (c ++ rest)))

pub init_effects_acting : {env : Known} {a : List Lexeme} {ss : StmtTrees} → AreInitEffects env a ss → (rest : List Lexeme) → Acting env (a ++ rest)
init_effects_acting (last_init h) rest = effect_acting h rest
init_effects_acting {env} (also_init {a = a} {c = c} o h e hs) rest = subst (Acting env) (sym (append_assoc a (o ∷ c) rest)) (effect_acting h (o ∷ (c ++ rest)))

pub rhs_begins : {env : Known} {a : List Lexeme} {r : RhsTree} → IsRhs env a r → (rest : List Lexeme) → lacks m.Semicolon (a ++ rest) ≡ true
rhs_begins {env} (rhs_value {a = a} h) rest = (starts_acting env a rest (cond_begins h)).semicolon
rhs_begins (rhs_call h) rest = (call_acting h rest).semicolon
rhs_begins (rhs_cast o w e t f h) rest = ap (λ (kind : LexemeKind). not (fits m.Semicolon kind)) e

-- ---- labels

pub label_begins : {env : Known} {a : List Lexeme} {x : Option ExprTree} → IsLabel env a x → (rest : List Lexeme) → begins_label (a ++ rest) ≡ true
label_begins (case_label o w is h fixed colon) rest = ap (λ (kind : LexemeKind). is_label (label_of kind)) is
label_begins (default_label o w is colon) rest = ap (λ (kind : LexemeKind). is_label (label_of kind)) is

pub labels_begin : {env : Known} {a : List Lexeme} {xs : List (Option ExprTree)} → AreLabels env a xs → (rest : List Lexeme) → begins_label (a ++ rest) ≡ true
labels_begin (last_label h) rest = label_begins h rest
labels_begin (also_label {a = a} {c = c} h hs) rest = ap begins_label (append_assoc a c rest) ∙ label_begins h (c ++ rest)

label_brace : (kind : LexemeKind) → is_label (label_of kind) ≡ true → fits m.CloseBrace kind ≡ false
label_brace (l.Keyword k.Case) e = refl
label_brace (l.Keyword k.Default) e = refl
label_brace _ e = absurd cc

pub label_no_brace : (os : List Lexeme) → begins_label os ≡ true → lacks m.CloseBrace os ≡ true
label_no_brace [] e = refl
label_no_brace (o ∷ os) e = ap not (label_brace o.kind e)

-- ---- declarations

-- no parenthesis stands before a declarator
name_no_open : (kind : LexemeKind) (n : ℕ) → name_of kind ≡ Some n → fits m.OpenParen kind ≡ false
name_no_open (l.Name v) n e = refl
name_no_open (l.Attributive v) n e = refl
name_no_open _ n e = absurd cc

pointers_opens : {t w : TypeTree} {a : List Lexeme} → ArePointers t a w → (rest : List Lexeme) → opens rest ≡ false → opens (a ++ rest) ≡ false
pointers_opens no_star rest e = e
pointers_opens (also_star {a = a} {c = c} o h is skips) rest e = ap opens (append_assoc a (o ∷ c) rest) ∙ pointers_opens h (o ∷ (c ++ rest)) (ap (fits m.OpenParen) is)

object_opens : {env : Known} {t v : TypeTree} {a : List Lexeme} {n : ℕ} {o : Lexeme} → IsObject env t a n o v → (rest : List Lexeme) → opens (a ++ rest) ≡ false
object_opens (object_of {a = a} {c = c} o n h is g low) rest = ap opens (append_assoc a (o ∷ c) rest) ∙ pointers_opens h (o ∷ (c ++ rest)) (name_no_open o.kind n is)

variable_opens : {env : Known} {t : TypeTree} {a : List Lexeme} {s : StmtTree} → IsVariable env t a s → (rest : List Lexeme) → opens (a ++ rest) ≡ false
variable_opens (variable h off) rest = object_opens h rest
variable_opens (initialised {a = a} {c = c} w h off is r) rest = ap opens (append_assoc a (w ∷ c) rest) ∙ object_opens h (w ∷ (c ++ rest))

pub variables_opens : {env : Known} {t : TypeTree} {a : List Lexeme} {ss : StmtTrees} → AreVariables env t a ss → (rest : List Lexeme) → opens (a ++ rest) ≡ false
variables_opens (last_variable h) rest = variable_opens h rest
variables_opens (also_variable {a = a} {c = c} o h is hs) rest = ap opens (append_assoc a (o ∷ c) rest) ∙ variable_opens h (o ∷ (c ++ rest))

word_no_open : (w : Keyword) → fits m.OpenParen (l.Keyword w) ≡ false
word_no_open k.While = refl
word_no_open k.Else = refl
word_no_open _ = refl

beside_opens : {a : List Lexeme} {s : Beside} → AreBeside a s → (rest : List Lexeme) → opens rest ≡ false → opens (a ++ rest) ≡ false
beside_opens none_beside rest e = e
beside_opens (word_beside o w is h f) rest e = ap (fits m.OpenParen) is ∙ word_no_open w
beside_opens (attributes_beside {a = a} {os = os} i j) rest e =
    let f = attributes_there i in
    ap (λ (v : List Lexeme). opens ((v ++ os) ++ rest)) f.parts ∙ ap (fits m.OpenParen) f.is

-- a lexeme that begins a declaration ends nothing
record Declares (kind : LexemeKind) : Type 0 where
  semicolon : fits m.Semicolon kind ≡ false
  brace : fits m.CloseBrace kind ≡ false
  other : fits m.Else kind ≡ false

type_declares : (env : Known) (kind : LexemeKind) → begins_by env kind ≡ true → Declares kind
type_declares env (l.Keyword k.Else) e = absurd cc
type_declares env (l.Keyword k.While) e = absurd cc
type_declares env (l.Punctuator q) e = absurd cc
type_declares env _ e = record { semicolon = refl; brace = refl; other = refl }

storage_declares : (kind : LexemeKind) → is_storage kind ≡ true → Declares kind
storage_declares (l.Keyword k.Typedef) e = record { semicolon = refl; brace = refl; other = refl }
storage_declares (l.Keyword k.Extern) e = record { semicolon = refl; brace = refl; other = refl }
storage_declares (l.Keyword k.Static) e = record { semicolon = refl; brace = refl; other = refl }
storage_declares (l.Keyword k.Inline) e = record { semicolon = refl; brace = refl; other = refl }
storage_declares (l.Keyword k.Register) e = record { semicolon = refl; brace = refl; other = refl }
storage_declares _ e = absurd cc

-- the first lexeme begins a declaration
pub record Declaring (env : Known) (os : List Lexeme) : Type 0 where
  pub semicolon : lacks m.Semicolon os ≡ true
  pub brace : lacks m.CloseBrace os ≡ true
  pub other : lacks m.Else os ≡ true
  pub local : begins_local env os ≡ true

declaring : (env : Known) (o : Lexeme) (os : List Lexeme) → Declares o.kind → (is_storage o.kind || begins_by env o.kind) ≡ true → calls (o ∷ os) ≡ false → Declaring env (o ∷ os)
declaring env o os q e off = record { semicolon = ap not q.semicolon; brace = ap not q.brace; other = ap not q.other; local = true_both (is_storage o.kind || begins_by env o.kind) (not (calls (o ∷ os))) e (ap not off) }

type_declaring : (env : Known) (o : Lexeme) (os : List Lexeme) → begins_by env o.kind ≡ true → calls (o ∷ os) ≡ false → Declaring env (o ∷ os)
type_declaring env o os e off = declaring env o os (type_declares env o.kind e) (ap (λ (b : Bool). is_storage o.kind || b) e ∙ or_true (is_storage o.kind)) off

storage_declaring : (env : Known) (o : Lexeme) (os : List Lexeme) → is_storage o.kind ≡ true → calls (o ∷ os) ≡ false → Declaring env (o ∷ os)
storage_declaring env o os e off = declaring env o os (storage_declares o.kind e) (ap (λ (b : Bool). b || begins_by env o.kind) e) off

word_declaring : (env : Known) (o : Lexeme) (os : List Lexeme) (w : Keyword) (s r : Beside) → IsWord w o → also_said w s ≡ Some r → Declaring env (o ∷ os)
word_declaring env o os k.Typedef s r is e = storage_declaring env o os (ap is_storage is) (calls_off o os (ap name_of is))
word_declaring env o os k.Extern s r is e = storage_declaring env o os (ap is_storage is) (calls_off o os (ap name_of is))
word_declaring env o os k.Static s r is e = storage_declaring env o os (ap is_storage is) (calls_off o os (ap name_of is))
word_declaring env o os k.Inline s r is e = storage_declaring env o os (ap is_storage is) (calls_off o os (ap name_of is))
word_declaring env o os k.Register s r is e = storage_declaring env o os (ap is_storage is) (calls_off o os (ap name_of is))
word_declaring env o os k.Skipped s r is e = type_declaring env o os (ap (begins_by env) is) (calls_off o os (ap name_of is))
word_declaring env o os _ s r is e = absurd cc

-- the first word of a type
record Typing (env : Known) (a : List Lexeme) : Type 0 where
  o : Lexeme
  tail : List Lexeme
  parts : a ≡ o ∷ tail
  begins : begins_by env o.kind ≡ true
  alone : (name_of o.kind ≡ None) ⊎ (tail ≡ [])

word_no_name : (kind : LexemeKind) (u : IntWord) → word_of kind ≡ Some u → name_of kind ≡ None
word_no_name (l.Keyword w) u e = refl
word_no_name _ u e = absurd cc

base_typing : {env : Known} {a : List Lexeme} {t : TypeTree} → IsBase env a t → Typing env a
base_typing {env} (void_word o e) = record { o = o; tail = []; parts = refl; begins = ap (begins_by env) e; alone = inl (ap name_of e) }
base_typing {env} (int_words {os = os} t h) =
    let f = first_counted os t h in
    record { o = f.o; tail = f.tail; parts = f.parts; begins = ap (begins_type env) (sym f.parts) ∙ base_begins {env = env} (int_words t h); alone = inl (word_no_name f.o.kind f.u f.is) }
base_typing {env} (type_name o n t e f) = record { o = o; tail = []; parts = refl; begins = base_begins {env = env} (type_name o n t e f); alone = inr refl }
base_typing {env} (tag_name o w n at union e f g i) = record { o = o; tail = w ∷ []; parts = refl; begins = base_begins {env = env} (tag_name o w n at union e f g i); alone = inl (ap name_of e) }
base_typing {env} (enum_name o w n e f g) = record { o = o; tail = w ∷ []; parts = refl; begins = base_begins {env = env} (enum_name o w n e f g); alone = inl (ap name_of e) }

tag_begins : (env : Known) (union : Bool) → begins_by env (l.Keyword (tag_word union)) ≡ true
tag_begins env false = refl
tag_begins env true = refl

tag_typing : (env : Known) (o : Lexeme) (tail : List Lexeme) (union : Bool) → IsWord (tag_word union) o → Typing env (o ∷ tail)
tag_typing env o tail union is = record { o = o; tail = tail; parts = refl; begins = ap (begins_by env) is ∙ tag_begins env union; alone = inl (ap name_of is) }

enum_typing : (env : Known) (o : Lexeme) (tail : List Lexeme) → IsWord k.Enum o → Typing env (o ∷ tail)
enum_typing env o tail is = record { o = o; tail = tail; parts = refl; begins = ap (begins_by env) is; alone = inl (ap name_of is) }

specifier_typing : {earlier : List DeclTree} {env known : Known} {a : List Lexeme} {t : TypeTree} {listed : Bool} → IsSpecifier earlier env a t listed known → Typing env a
specifier_typing (declared_before i low) = base_typing i
specifier_typing (new_tag {env = env} o w n union e f g) = tag_typing env o (w ∷ []) union e
specifier_typing (tag_members {env = env} {a = a} o w n at union e f g i j q) = tag_typing env o (w ∷ a) union e
specifier_typing (members_alone {env = env} {a = a} o union e j) = tag_typing env o a union e
specifier_typing (enum_named {env = env} {a = a} o w n e f j) = enum_typing env o (w ∷ a) e
specifier_typing (enum_alone {env = env} {a = a} o e j) = enum_typing env o a e

calls_alone : (o : Lexeme) (tail os : List Lexeme) → tail ≡ [] → opens os ≡ false → calls (o ∷ (tail ++ os)) ≡ false
calls_alone o tail os e off = ap (λ (v : List Lexeme). calls (o ∷ (v ++ os))) e ∙ ap (λ (b : Bool). is_some (name_of o.kind) && b) off ∙ and_false (is_some (name_of o.kind))

typing_declaring : (env : Known) (a os : List Lexeme) → Typing env a → opens os ≡ false → Declaring env (a ++ os)
typing_declaring env a os f off =
    let no_call : calls (f.o ∷ (f.tail ++ os)) ≡ false = elim f.alone [ inl e ↦ calls_off f.o (f.tail ++ os) e | inr e ↦ calls_alone f.o f.tail os e off ] in
    subst (λ (v : List Lexeme). Declaring env (v ++ os)) (sym f.parts) (type_declaring env f.o (f.tail ++ os) f.begins no_call)

beside_declaring : (env : Known) {a : List Lexeme} {s : Beside} → AreBeside a s → s.attributed ≡ false → (os : List Lexeme) → Declaring env os → Declaring env (a ++ os)
beside_declaring env none_beside off os f = f
beside_declaring env (word_beside {os = a} {s = s} {said = r} o w is h e) off os f = word_declaring env o (a ++ os) w s r is e
beside_declaring env (attributes_beside i j) off os f = absurd cc

first_off : (a b : Bool) → (a || b) ≡ false → a ≡ false
first_off true b e = absurd cc
first_off false b e = refl

specs_declaring : {earlier : List DeclTree} {env known : Known} {a : List Lexeme} {t : TypeTree} {s : Beside} {listed : Bool} → AreSpecs earlier env a t s listed known → s.attributed ≡ false → (os : List Lexeme) → opens os ≡ false → Declaring env (a ++ os)
specs_declaring {env = env} (specs {a = a} {c = c} {d = d} {s = s} {r = r} h i j bare) plain os off =
    subst (Declaring env) (sym (three_parts a c d os))
    (beside_declaring env h (first_off s.attributed r.attributed plain) (c ++ (d ++ os)) (typing_declaring env c (d ++ os) (specifier_typing i) (beside_opens j os off)))

pub local_declaring : {earlier : List DeclTree} {env known : Known} {a : List Lexeme} {ss : StmtTrees} → IsLocal earlier env a ss known → (rest : List Lexeme) → Declaring env (a ++ rest)
local_declaring {env = env} (local {a = a} {c = c} o h attributed type linked vs is) rest =
    subst (Declaring env) (sym (three_parts a c (o ∷ []) rest)) (specs_declaring h attributed (c ++ o ∷ rest) (variables_opens vs (o ∷ rest)))

-- ---- statements

-- the first lexeme begins a statement
pub record Stating (env : Known) (os : List Lexeme) : Type 0 where
  pub filled : 1 ≤ length os
  pub brace : lacks m.CloseBrace os ≡ true
  pub other : lacks m.Else os ≡ true
  pub label : begins_label os ≡ false
  pub local : begins_local env os ≡ false

acting_stating : (env : Known) (os : List Lexeme) → Acting env os → Stating env os
acting_stating env os q = record { filled = q.filled; brace = q.brace; other = q.other; label = q.label; local = q.local }

-- a lexeme that by itself begins a statement
record States (env : Known) (kind : LexemeKind) : Type 0 where
  brace : fits m.CloseBrace kind ≡ false
  other : fits m.Else kind ≡ false
  label : is_label (label_of kind) ≡ false
  storage : is_storage kind ≡ false
  type : begins_by env kind ≡ false

stating : (env : Known) (o : Lexeme) (os : List Lexeme) (kind : LexemeKind) → o.kind ≡ kind → States env kind → Stating env (o ∷ os)
stating env o os kind is q =
    let s : States env o.kind = subst (States env) (sym is) q in
    record { filled = omega arith; brace = ap not s.brace; other = ap not s.other; label = s.label; local = no_local env o os s.storage s.type }

pub stmt_stating : {earlier : List DeclTree} {env known : Known} {f : Bool} {a : List Lexeme} {s : StmtTree} → IsStmt earlier env f a s known → (rest : List Lexeme) → Stating env (a ++ rest)
stmt_stating {env = env} (block_stmt {a = a} o w is h shuts) rest = stating env o ((a ++ w ∷ []) ++ rest) (l.Punctuator p.OpenBrace) is (record { brace = refl; other = refl; label = refl; storage = refl; type = refl })
stmt_stating {env = env} (empty_stmt o is) rest = stating env o rest (l.Punctuator p.Semicolon) is (record { brace = refl; other = refl; label = refl; storage = refl; type = refl })
stmt_stating {env = env} (effect_stmt {a = a} o h is) rest = subst (Stating env) (sym (append_assoc a (o ∷ []) rest)) (acting_stating env (a ++ o ∷ rest) (effect_acting h (o ∷ rest)))
stmt_stating {env = env} (if_stmt {a = a} {c = c} i o w is opening h closing s) rest = stating env i (((o ∷ a) ++ w ∷ c) ++ rest) (l.Keyword k.If) is (record { brace = refl; other = refl; label = refl; storage = refl; type = refl })
stmt_stating {env = env} (if_else_stmt {a = a} {c = c} {d = d} i o w e is opening h closing s also u) rest = stating env i (((o ∷ a) ++ (w ∷ c) ++ e ∷ d) ++ rest) (l.Keyword k.If) is (record { brace = refl; other = refl; label = refl; storage = refl; type = refl })
stmt_stating {env = env} (while_stmt {a = a} {c = c} i o w is opening h closing s) rest = stating env i (((o ∷ a) ++ w ∷ c) ++ rest) (l.Keyword k.While) is (record { brace = refl; other = refl; label = refl; storage = refl; type = refl })
stmt_stating {env = env} (do_stmt {a = a} {c = c} i w o u e is s while opening h closing ends) rest = stating env i ((a ++ (w ∷ o ∷ c) ++ u ∷ e ∷ []) ++ rest) (l.Keyword k.Do) is (record { brace = refl; other = refl; label = refl; storage = refl; type = refl })
stmt_stating {env = env} (for_stmt {a = a} {c = c} {d = d} {r = r} i o w e is opening init test ends steps closing s) rest = stating env i (((o ∷ a) ++ c ++ (w ∷ d) ++ e ∷ r) ++ rest) (l.Keyword k.For) is (record { brace = refl; other = refl; label = refl; storage = refl; type = refl })
stmt_stating {env = env} (switch_stmt {a = a} {c = c} i o w e u is opening h closing begins gs shuts) rest = stating env i (((o ∷ a) ++ (w ∷ e ∷ c) ++ u ∷ []) ++ rest) (l.Keyword k.Switch) is (record { brace = refl; other = refl; label = refl; storage = refl; type = refl })
stmt_stating {env = env} (break_stmt i o is ends) rest = stating env i (o ∷ rest) (l.Keyword k.Break) is (record { brace = refl; other = refl; label = refl; storage = refl; type = refl })
stmt_stating {env = env} (continue_stmt i o is ends) rest = stating env i (o ∷ rest) (l.Keyword k.Continue) is (record { brace = refl; other = refl; label = refl; storage = refl; type = refl })
stmt_stating {env = env} (return_stmt {a = a} i o is h ends) rest = stating env i ((a ++ o ∷ []) ++ rest) (l.Keyword k.Return) is (record { brace = refl; other = refl; label = refl; storage = refl; type = refl })
