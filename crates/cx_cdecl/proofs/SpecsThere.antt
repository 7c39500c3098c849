-- The words of a type that is declared before, and of a tag, are read; and what stands before a list in braces.
use Rattle.std.proofs.Common.{◌≡◌, ℕ, ◌≤◌, Bool, true, false, cond, List, [], ◌∷◌, ◌++◌, length, Option, Some, None, refl, sym, ap, ◌∙◌, subst, arith}
use Rattle.std.specs.Prelude.{not}
use Rattle.cx_base.specs.declared.number.CInt.{CInt}
use Rattle.cx_ctree.specs.Types.{TypeTree, tag}
use Rattle.cx_ctree.specs.Path.{type_path}
use Rattle.cx_ctree.specs.Decls.{DeclTree}
use Rattle.cx_cword.specs.declared.word.Keyword.{Keyword}
use Rattle.cx_cword.specs.declared.word.Keyword.TheVariants as k
use Rattle.cx_cword.specs.declared.word.Punctuator.TheVariants as p
use Rattle.cx_cword.specs.declared.lexeme.Lexeme.{Lexeme}
use Rattle.cx_cword.specs.declared.lexeme.LexemeKind.{LexemeKind}
use Rattle.cx_cword.specs.declared.lexeme.LexemeKind.TheVariants as l
use Rattle.cx_cword.specs.Reading.{Is, IsWord, IsName, name_of, ◌>>=◌}
use Rattle.cx_cname.specs.Known.{Known, tag_place, HasKind, with_tag}
use Rattle.cx_cexpr.specs.declared.kinds.IntWord.{IntWord}
use Rattle.cx_cexpr.specs.IntWords.{AreIntWords, counted, counts_of}
use Rattle.cx_cexpr.specs.Kinds.{word_of}
use Rattle.cx_cexpr.specs.Expressions.{tag_word, IsBase, void_word, int_words, type_name, tag_name, enum_name}
use Rattle.cx_cexpr.specs.Reading as expr
use Rattle.cx_cexpr.specs.Reading.{named, base_at}
use Rattle.cx_cexpr.proofs.Counting.{counted_some}
use Rattle.cx_cexpr.proofs.Counted.{NoWord}
use Rattle.cx_cexpr.proofs.Steps.{bind_some}
use Rattle.cx_cexpr.proofs.TypeAgain.{base_there}
use Rattle.cx_cword.specs.declared.mark.Mark.{Mark}
use Rattle.cx_cword.specs.declared.mark.Mark.TheVariants as m
use Rattle.cx_cdecl.specs.declared.kinds.Head.{Head}
use Rattle.cx_cdecl.specs.declared.kinds.Head.TheVariants as h
use Rattle.cx_cdecl.specs.Declarations.{Beside, also_said, AreBeside, none_beside, word_beside, attributes_beside, IsSpecifier, declared_before, new_tag, tag_members, members_alone, enum_named, enum_alone}
use Rattle.cx_cdecl.specs.Kinds.{head_of}
use Rattle.cx_cdecl.specs.Reading.{Got, After, Specifier, Placed, Listing, is_kind, place_by, place_at, plain_tag, plain_base, plain_by, plain_at, braced, braced_name, listing_after, listing_by, listing_at}
use Rattle.cx_cdecl.proofs.BesideThere.{attributes_there}
use Rattle.cx_cdecl.proofs.Follows.{is_beside, no_beside, no_mark, name_no_mark, choose_goes, choose_other, named_goes, if_goes}
use Rattle.cx_cdecl.proofs.Grows.{kind_so}
use Rattle.cx_cword.specs.Marks.{fits}

-- ---- what begins the words of a type

-- nothing that stands beside a type, and no mark
pub record Starts (kind : LexemeKind) : Type 0 where
  pub beside : is_beside kind ≡ false
  pub mark : (mark : Mark) → fits mark kind ≡ false

pub record First (os : List Lexeme) : Type 0 where
  pub o : Lexeme
  pub tail : List Lexeme
  pub parts : os ≡ o ∷ tail
  pub starts : Starts o.kind

word_beside_not : (kind : LexemeKind) (u : IntWord) → word_of kind ≡ Some u → is_beside kind ≡ false
word_beside_not (l.Keyword k.Typedef) u e = absurd cc
word_beside_not (l.Keyword k.Extern) u e = absurd cc
word_beside_not (l.Keyword k.Static) u e = absurd cc
word_beside_not (l.Keyword k.Inline) u e = absurd cc
word_beside_not (l.Keyword k.Register) u e = absurd cc
word_beside_not (l.Keyword k.Skipped) u e = absurd cc
word_beside_not (l.Keyword k.Attribute) u e = absurd cc
word_beside_not (l.Keyword _) u e = refl
word_beside_not _ u e = refl

word_no_mark : (mark : Mark) (kind : LexemeKind) (u : IntWord) → word_of kind ≡ Some u → fits mark kind ≡ false
word_no_mark mark (l.Keyword k.While) u e = absurd cc
word_no_mark mark (l.Keyword k.Else) u e = absurd cc
word_no_mark mark (l.Keyword _) u e = refl
word_no_mark mark _ u e = absurd cc

name_not_beside : (kind : LexemeKind) (n : ℕ) → name_of kind ≡ Some n → is_beside kind ≡ false
name_not_beside (l.Keyword w) n e = absurd cc
name_not_beside _ n e = refl

void_starts : Starts (l.Keyword k.Void)
void_starts = record { beside = refl; mark = λ mark. refl }

enum_starts : Starts (l.Keyword k.Enum)
enum_starts = record { beside = refl; mark = λ mark. refl }

tag_starts : (union : Bool) → Starts (l.Keyword (tag_word union))
tag_starts false = record { beside = refl; mark = λ mark. refl }
tag_starts true = record { beside = refl; mark = λ mark. refl }

word_starts : (w : Keyword) (o : Lexeme) → IsWord w o → Starts (l.Keyword w) → Starts o.kind
word_starts w o is e = subst Starts (sym is) e

name_starts : (o : Lexeme) (n : ℕ) → IsName n o → Starts o.kind
name_starts o n is = record { beside = name_not_beside o.kind n is; mark = λ mark. name_no_mark mark o.kind n is }

-- the first of the words of an integer type
pub record Counted (os : List Lexeme) : Type 0 where
  pub o : Lexeme
  pub tail : List Lexeme
  pub parts : os ≡ o ∷ tail
  pub u : IntWord
  pub is : word_of o.kind ≡ Some u

pub first_counted : (os : List Lexeme) (t : CInt) → AreIntWords os t → Counted os
first_counted [] t h = absurd (cc h.some_word)
first_counted (o ∷ os) t h =
    let c = bind_some (counts_of os) (counted o.kind) h.counts h.counted_are in
    let u = counted_some o.kind c.0 h.counts c.2 in
    record { o = o; tail = os; parts = refl; u = u.0; is = u.1 }

counted_first : (os : List Lexeme) → Counted os → First os
counted_first os f = record { o = f.o; tail = f.tail; parts = f.parts; starts = record { beside = word_beside_not f.o.kind f.u f.is; mark = λ mark. word_no_mark mark f.o.kind f.u f.is } }

pub base_first : {env : Known} {os : List Lexeme} {t : TypeTree} → IsBase env os t → First os
base_first (void_word o e) = record { o = o; tail = []; parts = refl; starts = word_starts k.Void o e void_starts }
base_first (int_words {os = os} t h) = counted_first os (first_counted os t h)
base_first (type_name o n t e f) = record { o = o; tail = []; parts = refl; starts = name_starts o n e }
base_first (tag_name o w n at union e f g i) = record { o = o; tail = w ∷ []; parts = refl; starts = word_starts (tag_word union) o e (tag_starts union) }
base_first (enum_name o w n e f g) = record { o = o; tail = w ∷ []; parts = refl; starts = word_starts k.Enum o e enum_starts }

pub specifier_first : {earlier : List DeclTree} {env known : Known} {os : List Lexeme} {t : TypeTree} {listed : Bool} → IsSpecifier earlier env os t listed known → First os
specifier_first (declared_before i low) = base_first i
specifier_first (new_tag o w n union e f g) = record { o = o; tail = w ∷ []; parts = refl; starts = word_starts (tag_word union) o e (tag_starts union) }
specifier_first (tag_members {a = a} o w n at union e f g i j q) = record { o = o; tail = w ∷ a; parts = refl; starts = word_starts (tag_word union) o e (tag_starts union) }
specifier_first (members_alone {a = a} o union e f) = record { o = o; tail = a; parts = refl; starts = word_starts (tag_word union) o e (tag_starts union) }
specifier_first (enum_named {a = a} o w n e f g) = record { o = o; tail = w ∷ a; parts = refl; starts = word_starts k.Enum o e enum_starts }
specifier_first (enum_alone {a = a} o e f) = record { o = o; tail = a; parts = refl; starts = word_starts k.Enum o e enum_starts }

pub first_beside : (os rest : List Lexeme) → First os → no_beside (os ++ rest) ≡ true
first_beside os rest f = ap (λ (v : List Lexeme). no_beside (v ++ rest)) f.parts ∙ ap not f.starts.beside

pub first_mark : (mark : Mark) (os rest : List Lexeme) → First os → no_mark mark (os ++ rest) ≡ true
first_mark mark os rest f = ap (λ (v : List Lexeme). no_mark mark (v ++ rest)) f.parts ∙ ap not (f.starts.mark mark)

pub first_filled : (os : List Lexeme) → First os → 1 ≤ length os
first_filled os f = let e = ap length f.parts in omega (arith, e)

-- ---- what stands beside a type is a keyword, and no word of an integer type

pub said_no_word : (w : Keyword) (s r : Beside) → also_said w s ≡ Some r → word_of (l.Keyword w) ≡ None
said_no_word k.Char s r e = absurd cc
said_no_word k.Short s r e = absurd cc
said_no_word k.Int s r e = absurd cc
said_no_word k.Long s r e = absurd cc
said_no_word k.Signed s r e = absurd cc
said_no_word k.Unsigned s r e = absurd cc
said_no_word _ s r e = refl

pub said_no_mark : (w : Keyword) (s r : Beside) → also_said w s ≡ Some r → (mark : Mark) → fits mark (l.Keyword w) ≡ false
said_no_mark k.While s r e mark = absurd cc
said_no_mark k.Else s r e mark = absurd cc
said_no_mark _ s r e mark = refl

pub beside_word : {a : List Lexeme} {s : Beside} → AreBeside a s → (rest : List Lexeme) → NoWord rest → NoWord (a ++ rest)
beside_word none_beside rest e = e
beside_word (word_beside {s = s} {said = r} o w is i f) rest e = ap word_of is ∙ said_no_word w s r f
beside_word (attributes_beside {a = a} {os = os} i j) rest e =
    let f = attributes_there i in
    subst NoWord (sym (ap (λ (v : List Lexeme). (v ++ os) ++ rest) f.parts)) (ap word_of f.is)

pub beside_mark : {a : List Lexeme} {s : Beside} → AreBeside a s → (mark : Mark) (rest : List Lexeme) → no_mark mark rest ≡ true → no_mark mark (a ++ rest) ≡ true
beside_mark none_beside mark rest e = e
beside_mark (word_beside {s = s} {said = r} o w is i f) mark rest e = ap (λ (kind : LexemeKind). not (fits mark kind)) is ∙ ap not (said_no_mark w s r f mark)
beside_mark (attributes_beside {a = a} {os = os} i j) mark rest e =
    let f = attributes_there i in
    ap (λ (v : List Lexeme). no_mark mark ((v ++ os) ++ rest)) f.parts ∙ ap (λ (kind : LexemeKind). not (fits mark kind)) f.is

-- ---- heads

pub word_head : (kind : LexemeKind) (u : IntWord) → word_of kind ≡ Some u → head_of kind ≡ h.Other
word_head (l.Keyword k.Struct) u e = absurd cc
word_head (l.Keyword k.Union) u e = absurd cc
word_head (l.Keyword k.Enum) u e = absurd cc
word_head (l.Keyword _) u e = refl
word_head _ u e = refl

pub name_head : (kind : LexemeKind) (n : ℕ) → name_of kind ≡ Some n → head_of kind ≡ h.Other
name_head (l.Keyword w) n e = absurd cc
name_head _ n e = refl

tag_head : (union : Bool) → head_of (l.Keyword (tag_word union)) ≡ h.Record union
tag_head false = refl
tag_head true = refl

pub plain_head : (env : Known) (o : Lexeme) (rest : List Lexeme) (head : Head) → head_of o.kind ≡ head → plain_at env (o ∷ rest) ≡ plain_by env (o ∷ rest) rest head
unfolding plain_at
plain_head env o rest head e = ap (plain_by env (o ∷ rest) rest) e

pub listing_head : (o : Lexeme) (rest : List Lexeme) (head : Head) → head_of o.kind ≡ head → listing_at (o ∷ rest) ≡ listing_by rest head
unfolding listing_at
listing_head o rest head e = ap (listing_by rest) e

abbrev pub listing_of : Option Bool → Option ℕ → List Lexeme → Option (Got Listing)
listing_of union name rest = Some (record { tree = record { union_ = union; name = name }; rest = rest })

listing_name : (union : Option Bool) (w : Lexeme) (n : ℕ) (rest : List Lexeme) → IsName n w → listing_after union (w ∷ rest) ≡ braced union (Some n) rest
listing_name union w n rest e =
    ap (λ (b : Bool). cond b (listing_of union None rest) (braced_name union rest (name_of w.kind))) (name_no_mark m.OpenBrace w.kind n e)
    ∙ ap (braced_name union rest) e

listing_brace : (union : Option Bool) (b : Lexeme) (rest : List Lexeme) → Is p.OpenBrace b → listing_after union (b ∷ rest) ≡ listing_of union None rest
listing_brace union b rest e = ap (λ (kind : LexemeKind). cond (fits m.OpenBrace kind) (listing_of union None rest) (braced_name union rest (name_of b.kind))) e

pub record_listed : (o w b : Lexeme) (n : ℕ) (union : Bool) (rest : List Lexeme) → IsWord (tag_word union) o → IsName n w → Is p.OpenBrace b → listing_at (o ∷ w ∷ b ∷ rest) ≡ listing_of (Some union) (Some n) rest
record_listed o w b n union rest is called opens =
    listing_head o (w ∷ b ∷ rest) (h.Record union) (ap head_of is ∙ tag_head union) ∙ listing_name (Some union) w n (b ∷ rest) called
    ∙ choose_goes m.OpenBrace b rest None (λ rest. listing_of (Some union) (Some n) rest) opens

pub record_bare : (o b : Lexeme) (union : Bool) (rest : List Lexeme) → IsWord (tag_word union) o → Is p.OpenBrace b → listing_at (o ∷ b ∷ rest) ≡ listing_of (Some union) None rest
record_bare o b union rest is opens = listing_head o (b ∷ rest) (h.Record union) (ap head_of is ∙ tag_head union) ∙ listing_brace (Some union) b rest opens

pub enum_listed_so : (o w b : Lexeme) (n : ℕ) (rest : List Lexeme) → IsWord k.Enum o → IsName n w → Is p.OpenBrace b → listing_at (o ∷ w ∷ b ∷ rest) ≡ listing_of None (Some n) rest
enum_listed_so o w b n rest is called opens =
    listing_head o (w ∷ b ∷ rest) h.Enum (ap head_of is) ∙ listing_name None w n (b ∷ rest) called
    ∙ choose_goes m.OpenBrace b rest None (λ rest. listing_of None (Some n) rest) opens

pub enum_bare : (o b : Lexeme) (rest : List Lexeme) → IsWord k.Enum o → Is p.OpenBrace b → listing_at (o ∷ b ∷ rest) ≡ listing_of None None rest
enum_bare o b rest is opens = listing_head o (b ∷ rest) h.Enum (ap head_of is) ∙ listing_brace None b rest opens

record_unlisted : (o w : Lexeme) (n : ℕ) (union : Bool) (rest : List Lexeme) → IsWord (tag_word union) o → IsName n w → no_mark m.OpenBrace rest ≡ true → listing_at (o ∷ w ∷ rest) ≡ None
record_unlisted o w n union rest is called ends =
    listing_head o (w ∷ rest) (h.Record union) (ap head_of is ∙ tag_head union) ∙ listing_name (Some union) w n rest called ∙ choose_other m.OpenBrace rest None (λ rest. listing_of (Some union) (Some n) rest) ends

enum_unlisted : (o w : Lexeme) (n : ℕ) (rest : List Lexeme) → IsWord k.Enum o → IsName n w → no_mark m.OpenBrace rest ≡ true → listing_at (o ∷ w ∷ rest) ≡ None
enum_unlisted o w n rest is called ends =
    listing_head o (w ∷ rest) h.Enum (ap head_of is) ∙ listing_name None w n rest called ∙ choose_other m.OpenBrace rest None (λ rest. listing_of None (Some n) rest) ends

-- ---- without a list in braces

abbrev pub plain_of : Known → TypeTree → List Lexeme → After Specifier
plain_of known t rest = record { tree = record { ctype = t; listed = false }; known = known; rest = rest }

pub record PlainRead (env : Known) (front : List Lexeme) (t : TypeTree) (known : Known) : Type 0 where
  pub plain : (rest : List Lexeme) → NoWord rest → plain_at env (front ++ rest) ≡ Some (plain_of known t rest)
  pub unlisted : (rest : List Lexeme) → no_mark m.OpenBrace rest ≡ true → listing_at (front ++ rest) ≡ None

by_base : {env : Known} {a : List Lexeme} {t : TypeTree} → type_path t ≤ 400 → Rattle.cx_cexpr.specs.Reading.Few env → IsBase env a t → (rest : List Lexeme) → NoWord rest → plain_base env (base_at env 400 (a ++ rest)) ≡ Some (plain_of env t rest)
by_base {env} {a} {t} low few i rest ends = ap (plain_base env) (base_there env few i 400 rest ends low)

-- the dispatch for a list that begins with no struct and no union
through_base : {env : Known} {a : List Lexeme} {t : TypeTree} → type_path t ≤ 400 → Rattle.cx_cexpr.specs.Reading.Few env → IsBase env a t → (o : Lexeme) (tail : List Lexeme) → a ≡ o ∷ tail → ((rest : List Lexeme) → plain_at env (o ∷ rest) ≡ plain_base env (base_at env 400 (o ∷ rest)))
    → (rest : List Lexeme) → NoWord rest → plain_at env (a ++ rest) ≡ Some (plain_of env t rest)
through_base {env} {a} low few i o tail parts same rest ends =
    ap (λ (v : List Lexeme). plain_at env (v ++ rest)) parts ∙ same (tail ++ rest) ∙ ap (λ (v : List Lexeme). plain_base env (base_at env 400 (v ++ rest))) (sym parts) ∙ by_base low few i rest ends

pub old_tag : (env : Known) (o w : Lexeme) (n at : ℕ) (union : Bool) (rest : List Lexeme) → IsWord (tag_word union) o → IsName n w → tag_place env n ≡ Some at → HasKind env at union → plain_at env (o ∷ w ∷ rest) ≡ Some (plain_of env (tag at) rest)
old_tag env o w n at union rest is called place kind =
    plain_head env o (w ∷ rest) (h.Record union) (ap head_of is ∙ tag_head union)
    ∙ named_goes w n rest (λ w n after. place_at env union (Some n) >>= plain_tag after) called
    ∙ ap (λ (q : Option ℕ). place_by env union n q >>= plain_tag rest) place
    ∙ ap (λ (q : Option Placed). q >>= plain_tag rest) (if_goes (is_kind env union at) (Some (record { place = at; known = env })) (kind_so env union at kind))

pub fresh_tag : (env : Known) (o w : Lexeme) (n : ℕ) (union : Bool) (rest : List Lexeme) → IsWord (tag_word union) o → IsName n w → tag_place env n ≡ None → plain_at env (o ∷ w ∷ rest) ≡ Some (plain_of (with_tag env (Some n) union) (tag (length env.tags)) rest)
fresh_tag env o w n union rest is called place =
    plain_head env o (w ∷ rest) (h.Record union) (ap head_of is ∙ tag_head union)
    ∙ named_goes w n rest (λ w n after. place_at env union (Some n) >>= plain_tag after) called
    ∙ ap (λ (q : Option ℕ). place_by env union n q >>= plain_tag rest) place

pub base_read : {env : Known} {a : List Lexeme} {t : TypeTree} → type_path t ≤ 400 → Rattle.cx_cexpr.specs.Reading.Few env → IsBase env a t → PlainRead env a t env
base_read {env} low few (void_word o e) = record {
  plain = through_base low few (void_word o e) o [] refl (λ rest. plain_head env o rest h.Other (ap head_of e));
  unlisted = λ rest ends. listing_head o rest h.Other (ap head_of e);
}
base_read {env} low few (int_words {os = os} t i) =
    let f = first_counted os t i in
    let head = word_head f.o.kind f.u f.is in
    record {
      plain = through_base low few (int_words t i) f.o f.tail f.parts (λ rest. plain_head env f.o rest h.Other head);
      unlisted = λ rest ends. ap (λ (v : List Lexeme). listing_at (v ++ rest)) f.parts ∙ listing_head f.o (f.tail ++ rest) h.Other head;
    }
base_read {env} low few (type_name o n t e f) = record {
  plain = through_base low few (type_name o n t e f) o [] refl (λ rest. plain_head env o rest h.Other (name_head o.kind n e));
  unlisted = λ rest ends. listing_head o rest h.Other (name_head o.kind n e);
}
base_read {env} low few (tag_name o w n at union e f g i) = record { plain = λ rest ends. old_tag env o w n at union rest e f g i; unlisted = λ rest ends. record_unlisted o w n union rest e f ends }
base_read {env} low few (enum_name o w n e f g) = record {
  plain = through_base low few (enum_name o w n e f g) o (w ∷ []) refl (λ rest. plain_head env o rest h.Enum (ap head_of e));
  unlisted = λ rest ends. enum_unlisted o w n rest e f ends;
}

pub new_tag_read : (env : Known) (o w : Lexeme) (n : ℕ) (union : Bool) → IsWord (tag_word union) o → IsName n w → tag_place env n ≡ None → PlainRead env (o ∷ w ∷ []) (tag (length env.tags)) (with_tag env (Some n) union)
new_tag_read env o w n union is called place = record { plain = λ rest ends. fresh_tag env o w n union rest is called place; unlisted = λ rest ends. record_unlisted o w n union rest is called ends }

-- the words of a type without a list in braces are read
pub plain_read : {earlier : List DeclTree} {env known : Known} {a : List Lexeme} {t : TypeTree} {listed : Bool} → Rattle.cx_cexpr.specs.Reading.Few env → IsSpecifier earlier env a t listed known → listed ≡ false → PlainRead env a t known
plain_read few (declared_before i low) e = base_read low few i
plain_read {env = env} few (new_tag o w n union is called place) e = new_tag_read env o w n union is called place
plain_read few (tag_members o w n at union e f g i j q) bad = absurd cc
plain_read few (members_alone o union e f) bad = absurd cc
plain_read few (enum_named o w n e f g) bad = absurd cc
plain_read few (enum_alone o e f) bad = absurd cc
