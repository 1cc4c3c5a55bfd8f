-- What a reader must believe is specs/.
--   Appended    pieces put into a buffer one after another
--   Sizes       how long a commit's records are
pub mod Appended
pub mod Sizes
