-- The answers to a type file, from those of the layers below.
use Rattle.std.proofs.Common.{◌≡◌, ℕ, List, [], ◌∷◌, Some, None, Ok, Err, refl, sym, subst, inl, inr}
use Rattle.cx_base.specs.declared.span.Span.{Span}
use Rattle.cx_ctree.specs.declared.unit.Unit.{Unit}
use Rattle.cx_ctree.specs.Units.{unit_tree}
use Rattle.cx_cname.specs.Known.{known_of}
use Rattle.cx_tsyn.specs.declared.item.Surface.{Surface}
use Rattle.cx_tsyn.specs.Items.{SurfaceTree, surface_tree}
use Rattle.cx_tscope.specs.Faults.{first}
use Rattle.cx_tparse.specs.Parsing.{Parses}
use Rattle.cx_tparse.specs.declared.fault.ParseFault.{ParseFault}
use Rattle.cx_tparse.specs.declared.fault.ParseFault.TheVariants as parse
use Rattle.cx_tforms.specs.Faulty.{faulty_forms}
use Rattle.cx_tnames.specs.Unknown.{unknown_names}
use Rattle.cx_tdoubled.specs.Doubled.{doubled_names}
use Rattle.cx_tarity.specs.Arity.{arity_faults}
use Rattle.cx_tbinders.specs.Undetermined.{undetermined}
use Rattle.cx_tsizes.specs.BadSizes.{bad_sizes}
use Rattle.cx_tread.specs.declared.fault.TypeFault.{TypeFault}
use Rattle.cx_tread.specs.declared.fault.TypeFault.TheVariants as f
use Rattle.cx_tread.specs.Faults.{of_parse}
use Rattle.cx_tread.specs.TypeFiles.{Also, Derived, Formed, Known, Single, Counted, Determined, Refuses, ReadsTypes}

none_of : (ss : List Span) → first ss ≡ None → ss ≡ []
none_of [] e = refl
none_of (s ∷ ss) e = absurd (cc)

also : (Before : SurfaceTree → Type 0) (places : SurfaceTree → List Span) (t : SurfaceTree) → Before t → first (places t) ≡ None → Also Before places t
also Before places t b e = record { before = b; none = none_of (places t) e }

module _ (u : Unit) (bytes : List ℕ) where
  pub refused : (e : ParseFault) → Parses u.names (known_of u) bytes (Err e) → ReadsTypes u bytes (Err (of_parse e))
  refused (parse.OpenComment at) h = h
  refused (parse.OpenText at) h = h
  refused (parse.BadByte at) h = h
  refused (parse.TooDeep s) h = h
  refused (parse.Syntax s) h = inl h
  refused parse.NoMemory h = tt

  pub refused_of : (fault : TypeFault) (e : ParseFault) → fault ≡ of_parse e → Parses u.names (known_of u) bytes (Err e) → Refuses u bytes fault
  refused_of fault e p h = subst (Refuses u bytes) (sym p) (refused e h)

  module _ (x : Surface) (h : Parses u.names (known_of u) bytes (Ok x)) where
    pub faulty : (s : Span) → first (faulty_forms (surface_tree x)) ≡ Some s → ReadsTypes u bytes (Err (f.Syntax s))
    faulty s e = inr (record { tree = surface_tree x; before = h; at = e })

    module _ (forms : first (faulty_forms (surface_tree x)) ≡ None) where
      formed : Formed u bytes (surface_tree x)
      formed = also (Derived u bytes) faulty_forms (surface_tree x) h forms

      pub unknown : (s : Span) → first (unknown_names (unit_tree u) (surface_tree x)) ≡ Some s → ReadsTypes u bytes (Err (f.UnknownName s))
      unknown s e = record { tree = surface_tree x; before = formed; at = e }

      module _ (names : first (unknown_names (unit_tree u) (surface_tree x)) ≡ None) where
        known : Known u bytes (surface_tree x)
        known = also (Formed u bytes) (unknown_names (unit_tree u)) (surface_tree x) formed names

        pub doubled : (s : Span) → first (doubled_names (surface_tree x)) ≡ Some s → ReadsTypes u bytes (Err (f.Doubled s))
        doubled s e = record { tree = surface_tree x; before = known; at = e }

        module _ (single : first (doubled_names (surface_tree x)) ≡ None) where
          one : Single u bytes (surface_tree x)
          one = also (Known u bytes) doubled_names (surface_tree x) known single

          pub arity : (s : Span) → first (arity_faults (unit_tree u) (surface_tree x)) ≡ Some s → ReadsTypes u bytes (Err (f.Arity s))
          arity s e = record { tree = surface_tree x; before = one; at = e }

          module _ (counts : first (arity_faults (unit_tree u) (surface_tree x)) ≡ None) where
            counted : Counted u bytes (surface_tree x)
            counted = also (Single u bytes) (arity_faults (unit_tree u)) (surface_tree x) one counts

            pub open_binder : (s : Span) → first (undetermined (surface_tree x)) ≡ Some s → ReadsTypes u bytes (Err (f.Undetermined s))
            open_binder s e = record { tree = surface_tree x; before = counted; at = e }

            module _ (closed : first (undetermined (surface_tree x)) ≡ None) where
              determined : Determined u bytes (surface_tree x)
              determined = also (Counted u bytes) undetermined (surface_tree x) counted closed

              pub wrong_size : (s : Span) → first (bad_sizes (unit_tree u) (surface_tree x)) ≡ Some s → ReadsTypes u bytes (Err (f.BadSize s))
              wrong_size s e = record { tree = surface_tree x; before = determined; at = e }

              pub accepted : first (bad_sizes (unit_tree u) (surface_tree x)) ≡ None → ReadsTypes u bytes (Ok x)
              accepted e = also (Determined u bytes) (bad_sizes (unit_tree u)) (surface_tree x) determined e
