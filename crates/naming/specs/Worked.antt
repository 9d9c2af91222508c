-- Marks worked out: of the items 1 and 8, by the filter rule and by the list rule.
use Rattle.std.specs.Prelude.{◌≡◌, ℕ, true, false, List, [], ◌∷◌}
use Rattle.naming.specs.Marks.{filter_mark, filter_names, list_mark, list_names}

abbrev one_and_eight : List ℕ
one_and_eight = 1 ∷ 8 ∷ 0 ∷ 0 ∷ 0 ∷ 0 ∷ 0 ∷ 0 ∷ []

-- the filter names an item too many, and the list does not
pub record MarksWorked : Type 0 where
  pub filter : filter_mark one_and_eight ≡ 263
  pub one : filter_names 263 1 ≡ true
  pub eight : filter_names 263 8 ≡ true
  pub two : filter_names 263 2 ≡ true
  pub not_three : filter_names 263 3 ≡ false
  pub list_not_two : list_names (list_mark one_and_eight) 2 ≡ false
