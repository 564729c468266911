use borrow.Author.Tests.{eq-eqb, ne_eqb}
use Rattle.file_header.specs.Mirror.{fields_judged}
use Rattle.file_header.proofs.judge_fields.Goals as goal

pub returns-then-f-clause-value : goal.returns-then-f-clause-value
unfolding fields_judged
returns-then-f-clause-value c = simp (ne_eqb _ _ c.if-f.true)

pub returns-then-len-f-clause-value : goal.returns-then-len-f-clause-value
unfolding fields_judged
returns-then-len-f-clause-value c = simp (eq-eqb _ _ c.if-f.false, ne_eqb _ _ c.if-len-f.true)

pub returns-then-f-ne32-clause-value : goal.returns-then-f-ne32-clause-value
unfolding fields_judged
returns-then-f-ne32-clause-value c = simp (eq-eqb _ _ c.if-f.false, eq-eqb _ _ c.if-len-f.false, ne_eqb _ _ c.if-f-ne32.true)

pub returns-then-f-2-clause-value : goal.returns-then-f-2-clause-value
unfolding fields_judged
returns-then-f-2-clause-value c = simp (eq-eqb _ _ c.if-f.false, eq-eqb _ _ c.if-len-f.false, eq-eqb _ _ c.if-f-ne32.false, ne_eqb _ _ c.if-f-2.true)

pub returns-then-f-3-clause-value : goal.returns-then-f-3-clause-value
unfolding fields_judged
returns-then-f-3-clause-value c = simp (eq-eqb _ _ c.if-f.false, eq-eqb _ _ c.if-len-f.false, eq-eqb _ _ c.if-f-ne32.false, eq-eqb _ _ c.if-f-2.false, ne_eqb _ _ c.if-f-3.true)

pub returns-then-f-ne0-clause-value : goal.returns-then-f-ne0-clause-value
unfolding fields_judged
returns-then-f-ne0-clause-value c = simp (eq-eqb _ _ c.if-f.false, eq-eqb _ _ c.if-len-f.false, eq-eqb _ _ c.if-f-ne32.false, eq-eqb _ _ c.if-f-2.false, eq-eqb _ _ c.if-f-3.false, ne_eqb _ _ c.if-f-ne0.true)

pub returns-clause-value : goal.returns-clause-value
unfolding fields_judged
returns-clause-value c = simp (eq-eqb _ _ c.if-f.false, eq-eqb _ _ c.if-len-f.false, eq-eqb _ _ c.if-f-ne32.false, eq-eqb _ _ c.if-f-2.false, eq-eqb _ _ c.if-f-3.false, eq-eqb _ _ c.if-f-ne0.false)
