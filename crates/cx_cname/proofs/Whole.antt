-- What all changes together leave, and what is so once they are taken back.
use Rattle.std.proofs.Common.{◌≡◌, List, [], ◌∷◌, refl, ap, ◌∙◌, sym, subst}
use Rattle.cx_ctree.specs.Units.{UnitTree, unit_tree}
use Rattle.cx_ctree.specs.Tags.{AreRanked}
use Rattle.cx_ctree.specs.declared.unit.Unit.{Unit}
use Rattle.cx_cname.specs.declared.journal.Change.{Change}
use Rattle.cx_cname.specs.declared.journal.Change.TheVariants as c
use Rattle.cx_cname.specs.Known.{known_of, earlier_of, declared_by}
use Rattle.cx_cname.specs.Changes.{undone, before, past, SameFile}

undone_names : (c : Change) (u : UnitTree) → (undone c u).names ≡ u.names
undone_names c.Tag u = refl
undone_names (c.Members k name union) u = refl
undone_names c.Typedef u = refl
undone_names c.Constant u = refl
undone_names c.Enumeration u = refl

undone_tokens : (c : Change) (u : UnitTree) → (undone c u).tokens ≡ u.tokens
undone_tokens c.Tag u = refl
undone_tokens (c.Members k name union) u = refl
undone_tokens c.Typedef u = refl
undone_tokens c.Constant u = refl
undone_tokens c.Enumeration u = refl

undone_named : (c : Change) (u : UnitTree) → (undone c u).named ≡ u.named
undone_named c.Tag u = refl
undone_named (c.Members k name union) u = refl
undone_named c.Typedef u = refl
undone_named c.Constant u = refl
undone_named c.Enumeration u = refl

before_names : (cs : List Change) (u : UnitTree) → (before cs u).names ≡ u.names
unfolding before
before_names [] u = refl
before_names (c ∷ cs) u = undone_names c (before cs u) ∙ before_names cs u

before_tokens : (cs : List Change) (u : UnitTree) → (before cs u).tokens ≡ u.tokens
unfolding before
before_tokens [] u = refl
before_tokens (c ∷ cs) u = undone_tokens c (before cs u) ∙ before_tokens cs u

before_named : (cs : List Change) (u : UnitTree) → (before cs u).named ≡ u.named
unfolding before
before_named [] u = refl
before_named (c ∷ cs) u = undone_named c (before cs u) ∙ before_named cs u

pub past_nothing : (u : Unit) → past [] u ≡ unit_tree u
unfolding past before
past_nothing u = refl

-- with changes that lead back to u
module _ (cs : List Change) (u w : Unit) (kept : past cs w ≡ past [] u) where
  pub back_is : past cs w ≡ unit_tree u
  back_is = kept ∙ past_nothing u

  pub back_ranked : AreRanked (past cs w).tags
  back_ranked = subst (λ (v : UnitTree). AreRanked v.tags) (sym back_is) u.ranked

  pub back_file : w.items ≡ u.items → SameFile u w
  unfolding past
  back_file items = record {
    names = sym (before_names cs (unit_tree w)) ∙ ap (λ (v : UnitTree). v.names) back_is;
    items = items;
    tokens = sym (before_tokens cs (unit_tree w)) ∙ ap (λ (v : UnitTree). v.tokens) back_is;
    named = sym (before_named cs (unit_tree w)) ∙ ap (λ (v : UnitTree). v.named) back_is;
  }

-- a unit of the same tree
module _ (u w : Unit) (same : unit_tree w ≡ unit_tree u) where
  pub same_known : known_of w ≡ known_of u
  same_known = ap (λ (v : UnitTree). record { tags = v.tags; typedefs = v.typedefs; consts = v.consts; enums = v.enums }) same

  pub same_earlier : earlier_of w ≡ earlier_of u
  same_earlier = ap (λ (v : UnitTree). declared_by v.items) same

  pub same_file : w.items ≡ u.items → SameFile u w
  same_file items = record {
    names = ap (λ (v : UnitTree). v.names) same;
    items = items;
    tokens = ap (λ (v : UnitTree). v.tokens) same;
    named = ap (λ (v : UnitTree). v.named) same;
  }
