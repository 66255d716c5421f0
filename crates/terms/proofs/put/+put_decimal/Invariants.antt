-- `put_decimal`: the digits before the last are put by the call of itself. The measure is the number. Assumes nothing.
use Rattle.terms.proofs.put.+put_decimal.Given as goal

abbrev pub decreases-put_decimal : goal.decreases-put_decimal
decreases-put_decimal l = l.n
