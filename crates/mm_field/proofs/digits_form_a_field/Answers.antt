use Rattle.mm_field.proofs.Tables.{plus_assoc, plus_comm, times_assoc, times_comm, times-plus, plus-negative, times-inverse, plus_below, times_below, negative_below, inverse_below, plus_zero_digit, times_one_digit, one_digit}
use Rattle.mm_field.proofs.digits_form_a_field.Goals as goal

pub returns : goal.returns
returns c =
    let f = c.args.f in
    record {
      zero_and_one = one_digit f;
      sums = plus_below f;
      products = times_below f;
      negatives = negative_below f;
      inverses = inverse_below f;
      sum_associates = plus_assoc f;
      sum_commutes = plus_comm f;
      zero_is_neutral = plus_zero_digit f;
      negative_cancels = plus-negative f;
      product_associates = times_assoc f;
      product_commutes = times_comm f;
      one_is_neutral = times_one_digit f;
      inverse_cancels = times-inverse f;
      product_distributes = times-plus f;
    }
