-- The paper's page and the rules: that they agree.
-- Showing
pub mod Showing
-- Putting back, over any guard that locks or clashes; then the two guards
pub mod Brushes
pub mod Places
pub mod Ends
pub mod Parts
pub mod Singles
pub mod Pairs
pub mod Items
pub mod Tests
pub mod PuttingBack
pub mod Guards
pub mod OneNode
-- Lines read as the paper's data, and printed
pub mod Lines
pub mod Masters
pub mod Views
pub mod Printing
pub mod Orders
-- What follows for any program, master and view that reach a run; then on bytes, with nothing asked of them
pub mod Alike
pub mod Suspects
pub mod Adequacy
pub mod OnBytes
-- Where nothing is padded, 11 as printed
pub mod AsPrinted
