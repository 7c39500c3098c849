-- What the reading of whole texts gives is what the texts are.
use Rattle.std.proofs.Common.{◌≡◌, ℕ, Bool, true, List, Option, Some, None, if◌then◌else◌, refl, sym, ap, ◌∙◌, inl, inr}
use Rattle.std.proofs.lemmas.Bool.{cases_Bool}
use Rattle.cx_form.specs.declared.tree.Word.{Word}
use Rattle.cx_form.specs.declared.tree.CFile.{CFile}
use Rattle.cx_form.specs.declared.tree.TypeFile.{TypeFile}
use Rattle.cx_form.specs.Tokens.{tokens_of}
use Rattle.cx_form.specs.Files.{CFileOf, TypeFileOf}
use Rattle.cx_form.specs.Rules.{is_c_form, is_type_form}
use Rattle.cx_form.specs.Reading.{◌>>=◌, whole, c_file_at, type_file_at, c_file_of, type_file_of}
use Rattle.cx_form.proofs.Options.{some_same, bind_some}
use Rattle.cx_form.proofs.Exact.{whole_sound, whole_again}
use Rattle.cx_form.proofs.CParts.{c_file_reads}
use Rattle.cx_form.proofs.TypeParts.{type_file_reads}
use Rattle.cx_form.proofs.RulesHold.{c_form_decides, type_form_decides}

record Kept {A : Type 0} (test : A → Bool) (x y : A) : Type 0 where
  is : x ≡ y
  passes : test y ≡ true

kept : {A : Type 0} (test : A → Bool) (x y : A) → (if test x then Some x else None) ≡ Some y → Kept test x y
kept test x y e = elim (cases_Bool (test x)) [
  | inl on ↦ let same : x ≡ y = some_same x y (rw on at e) in record { is = same; passes = ap test (sym same) ∙ on }
  | inr off ↦ let k : None ≡ Some y = rw off at e in absurd cc
]

keeps : {A : Type 0} (test : A → Bool) (x : A) → test x ≡ true → (if test x then Some x else None) ≡ Some x
keeps test x on = rw on refl

pub c_file_sound : (bytes : List ℕ) (c : CFile) → c_file_of bytes ≡ Some c → CFileOf bytes c
unfolding c_file_of
c_file_sound bytes c e =
    let b = bind_some (tokens_of bytes) (λ ts. whole c_file_at ts >>= λ c. if is_c_form c then Some c else None) c e in
    let d = bind_some (whole c_file_at b.x) (λ c. if is_c_form c then Some c else None) c b.gives in
    let k = kept is_c_form d.x c d.gives in
    record { text = record { tokens = b.x; made = b.is; spelled = whole_sound c_file_reads b.x c (d.is ∙ ap Some k.is) }; rules = (c_form_decides c).0 k.passes }

pub c_file_again : (bytes : List ℕ) (c : CFile) → CFileOf bytes c → c_file_of bytes ≡ Some c
unfolding c_file_of
c_file_again bytes c h =
    ap (λ (o : Option (List Word)). o >>= λ ts. whole c_file_at ts >>= λ c. if is_c_form c then Some c else None) h.text.made
    ∙ ap (λ (o : Option CFile). o >>= λ c. if is_c_form c then Some c else None) (whole_again c_file_reads c h.text.tokens h.text.spelled)
    ∙ keeps is_c_form c ((c_form_decides c).1 h.rules)

-- a text has at most one C file
pub c_file_one : (bytes : List ℕ) (c d : CFile) → CFileOf bytes c → CFileOf bytes d → c ≡ d
c_file_one bytes c d h k = some_same c d (sym (c_file_again bytes c h) ∙ c_file_again bytes d k)

pub c_file_there : (bytes : List ℕ) (c : CFile) → Some c ≡ c_file_of bytes → CFileOf bytes c
c_file_there bytes c e = c_file_sound bytes c (sym e)

pub c_file_missing : (bytes : List ℕ) → c_file_of bytes ≡ None → (c : CFile) → CFileOf bytes c → ⊥
c_file_missing bytes e c h = let k : None ≡ Some c = sym e ∙ c_file_again bytes c h in absurd cc

pub type_file_sound : (bytes : List ℕ) (c : CFile) (t : TypeFile) → type_file_of bytes c ≡ Some t → TypeFileOf bytes c t
unfolding type_file_of
type_file_sound bytes c t e =
    let b = bind_some (tokens_of bytes) (λ ts. whole type_file_at ts >>= λ t. if is_type_form c t then Some t else None) t e in
    let d = bind_some (whole type_file_at b.x) (λ t. if is_type_form c t then Some t else None) t b.gives in
    let k = kept (is_type_form c) d.x t d.gives in
    record { text = record { tokens = b.x; made = b.is; spelled = whole_sound type_file_reads b.x t (d.is ∙ ap Some k.is) }; rules = (type_form_decides c t).0 k.passes }

pub type_file_again : (bytes : List ℕ) (c : CFile) (t : TypeFile) → TypeFileOf bytes c t → type_file_of bytes c ≡ Some t
unfolding type_file_of
type_file_again bytes c t h =
    ap (λ (o : Option (List Word)). o >>= λ ts. whole type_file_at ts >>= λ t. if is_type_form c t then Some t else None) h.text.made
    ∙ ap (λ (o : Option TypeFile). o >>= λ t. if is_type_form c t then Some t else None) (whole_again type_file_reads t h.text.tokens h.text.spelled)
    ∙ keeps (is_type_form c) t ((type_form_decides c t).1 h.rules)

-- a text has at most one type file beside a C file
pub type_file_one : (bytes : List ℕ) (c : CFile) (t u : TypeFile) → TypeFileOf bytes c t → TypeFileOf bytes c u → t ≡ u
type_file_one bytes c t u h k = some_same t u (sym (type_file_again bytes c t h) ∙ type_file_again bytes c u k)

pub type_file_missing : (bytes : List ℕ) (c : CFile) → type_file_of bytes c ≡ None → (t : TypeFile) → TypeFileOf bytes c t → ⊥
type_file_missing bytes c e t h = let k : None ≡ Some t = sym e ∙ type_file_again bytes c t h in absurd cc
