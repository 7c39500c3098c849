-- A state in which a cell is put is valid.
use Rattle.std.specs.Prelude.{◌≡◌, List, length, Ok}
use Rattle.std.proofs.Common.{arith}
use Rattle.std.proofs.lemmas.List.Sums.{length-filter, count_by-le-length}
use Rattle.std.proofs.lemmas.List.Elements.{All-filter}
use Rattle.cx_cells.specs.declared.form.Form.{Form}
use Rattle.cx_state.specs.Valid.{CellBelow, IsValid}
use Rattle.cx_state.specs.declared.state.Cell.{Cell}
use Rattle.cx_state.specs.declared.state.Env.{Env}
use Rattle.cx_learn.specs.Keeping.{KeepsValid}
use Rattle.cx_apart.specs.Apart.{are_apart}
use Rattle.cx_apart.specs.Putting.{spot_of, dropped, put}
use Rattle.cx_apart.specs.declared.spots.Spot.{Spot}
use Rattle.cx_opens.proofs.Grown.{cell-grown}

dropped-valid : (forms : List Form) (env : Env) (a : Spot) → IsValid forms env → IsValid forms (dropped env a)
dropped-valid forms env a V =
    record {
      anchors = V.anchors;
      scoped = record {
        facts_count = V.scoped.facts_count;
        locals = V.scoped.locals;
        conds = V.scoped.conds;
        facts = V.scoped.facts;
        cells = All-filter (λ c. are_apart env (spot_of c) a) (CellBelow (length env.ranges)) env.cells V.scoped.cells;
        staged = V.scoped.staged;
        fresh = V.scoped.fresh;
      };
      limits = record { symbols = V.limits.symbols; conds = V.limits.conds; cells = omega (arith, length-filter (λ c. are_apart env (spot_of c) a) env.cells, count_by-le-length (λ c. are_apart env (spot_of c) a) env.cells, V.limits.cells); staged = V.limits.staged };
      types = V.types;
    }

pub put-valid : (env : Env) (c : Cell) (next : Env) → put env c ≡ Ok next → KeepsValid env next (CellBelow (length env.ranges) c)
put-valid env c next q forms b V = (cell-grown forms (dropped env (spot_of c)) next c q b (dropped-valid forms env (spot_of c) V)).valid
