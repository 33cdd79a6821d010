mod PieceExamples
