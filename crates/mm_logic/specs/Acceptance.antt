-- Which types are accepted at the root of a tree.
use Rattle.std.specs.Prelude.{Bool, not}
use Rattle.std.specs.List.{list_any, list_all}
use Rattle.mm_logic.specs.Formula.{Formula, connect}
use Rattle.mm_logic.specs.Formula.Formula.{Const, Ind, Member, SameElem, Sub, SameSet, Not, Bin, ExSet, AllSet, ExElem, AllElem}
use Rattle.mm_logic.specs.Value.{Value, members, first, second}
use Rattle.mm_logic.specs.AtomValues.{is_alive, is_flag}

-- `true` accepts; `ind` accepts all but Dead, `x in X` Yes, `x = y` Same, `X sub Y` and `X = Y` Holds; `not` and connectives by
-- their truth tables; `ex` where some member of the set is accepted, `all` where every member is.
abbrev pub accepts : Formula → Value → Bool
accepts (Const b) v = b
accepts (Ind t) v = is_alive v
accepts (Member x a) v = is_flag 1 v
accepts (SameElem x y) v = is_flag 3 v
accepts (Sub a b) v = is_flag 0 v
accepts (SameSet a b) v = is_flag 0 v
accepts (Not F) v = not (accepts F v)
accepts (Bin o F G) v = connect o (accepts F (first v)) (accepts G (second v))
accepts (ExSet k F) v = list_any (accepts F) (members v)
accepts (AllSet k F) v = list_all (accepts F) (members v)
accepts (ExElem k F) v = list_any (accepts F) (members (second v))
accepts (AllElem k F) v = list_all (accepts F) (members (second v))
