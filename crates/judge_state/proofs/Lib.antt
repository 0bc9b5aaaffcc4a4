-- 20: a table compared with one that is worked out afresh.
pub mod Fresh
