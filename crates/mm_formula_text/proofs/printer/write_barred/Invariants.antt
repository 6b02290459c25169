use Rattle.std.proofs.Common.{◌≡◌, ◌++◌, take, true}
use Rattle.std.specs.List.{list_all, flat_map}
use Rattle.mm_formula.specs.Variables.{is_var}
use Rattle.mm_formula_text.specs.Canonical.{barred}
use Rattle.mm_formula_text.proofs.printer.write_barred.Given as goal

abbrev pub invariant-vars : goal.invariant-vars
invariant-vars l = record {
  text : l.out ≡ l.initial.out ++ flat_map barred (take l.v-index l.vars);
  words : list_all is_var (take l.v-index l.vars) ≡ true;
}
