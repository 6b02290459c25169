-- How a `JoinForm` is kept.
use Rattle.std.specs.Prelude.{◌≡◌}
use Rattle.mm_space.specs.JoinForms.{FormValue, HaveForm, form_rows}
use Rattle.mm_space.specs.declared.joining.JoinForm.TheInside.{Inside}

abbrev pub value_of : Inside → FormValue
value_of s = record { f = s.field; r = s.r; g1 = s.g1; g2 = s.g2; g3 = s.g3 }

abbrev pub inside_of : FormValue → Inside
inside_of v = record {
  field = v.f;
  r = v.r;
  g1 = v.g1;
  g2 = v.g2;
  g3 = v.g3;
  first = form_rows v.f v.r v.g3 v.g1;
  second = form_rows v.f v.r v.g3 v.g2;
}

-- the rows of g1 and of g2 in their normal form are kept
pub record IsFormed (s : Inside) : Type 0 where
  pub form : HaveForm s.field s.r s.g1 s.g2 s.g3
  pub first_is : form_rows s.field s.r s.g3 s.g1 ≡ s.first
  pub second_is : form_rows s.field s.r s.g3 s.g2 ≡ s.second
