mod ReadFront
