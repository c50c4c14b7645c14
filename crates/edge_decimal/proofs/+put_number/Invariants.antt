-- The measure of `edge_decimal::put_number` is the number, which each call divides by ten.
use Rattle.edge_decimal.proofs.+put_number.Given as goal

abbrev pub decreases-put_number : goal.decreases-put_number
decreases-put_number l = l.n
