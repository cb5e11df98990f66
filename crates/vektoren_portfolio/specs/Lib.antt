pub mod PortfolioCase
