-- The worked cases of local names hold of the definitions. Assumes nothing.
use mathlib.Core.Path.{refl}
use Rattle.common.specs.Digits.{all_digits, value}
use Rattle.dictionary_containers.specs.Containers.{starts_with, is_number, is_container_term}
use Rattle.dictionary_containers.specs.ByDigits.{after_zeros, not_above, in_range, is_number_by_digits}
use Rattle.dictionary_containers.specs.Cases.{AllHold, names}

pub starred_names : AllHold names
unfolding is_container_term starts_with is_number all_digits value is_number_by_digits after_zeros in_range not_above
starred_names = (refl, refl)
