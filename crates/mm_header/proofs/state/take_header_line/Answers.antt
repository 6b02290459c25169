use Rattle.mm_header.proofs.state.take_header_line.Goals as goal

pub returns-in-Rows-clause-goes : goal.returns-in-Rows-clause-goes
returns-in-Rows-clause-goes c = rw c.in-Rows.is c.take_rows.ensures.goes

pub returns-in-Operators-clause-goes : goal.returns-in-Operators-clause-goes
returns-in-Operators-clause-goes c = rw c.in-Operators.is c.take_operators.ensures.goes

pub returns-in-Tree-clause-goes : goal.returns-in-Tree-clause-goes
returns-in-Tree-clause-goes c = rw c.in-Tree.is c.take_tree_line.ensures.goes
