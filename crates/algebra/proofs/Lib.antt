-- The laws of the integers, of finite sums, of the quadratic form, of a grid that is moved and of machine numbers.
pub mod Ring
pub mod Solver
pub mod Order
pub mod Grid
pub mod Sum
pub mod SumOrder
pub mod Interval
pub mod Quadratic
pub mod Moved
pub mod Machine
