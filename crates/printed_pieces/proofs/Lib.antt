pub mod PieceTexts
